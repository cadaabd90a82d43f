-- What a stop may leave of the pages of a segment: what the numbers allow.
use Rattle.std.proofs.Common.{◌≡◌, ℕ, ◌+◌, ◌<◌, List, drop, map, length, Some, replicate, sym, ap, subst, ◌∙◌, arith}
use Rattle.std.specs.Prelude.{slice_get}
use Rattle.std.proofs.lemmas.List.{length-drop, length-map}
use Rattle.std.proofs.lemmas.Option.{slice_get_within, same_Some as same_some}
use Rattle.lc_record.specs.Content.{segment_of}
use Rattle.lc_record.specs.declared.geometry.Geometry.{Geometry}
use Rattle.lc_record.proofs.ListLemmas.{slice_get-drop as get-drop, slice_get_from_map as from-map}
use Rattle.lc_page.specs.Page.{Page as PageText}
use Rattle.lc_model.specs.Merge.{Page}
use Rattle.lc_model.specs.Stored.{Shows}
use Rattle.lc_recover.specs.Pages.{page_read, pages_read}
use Rattle.lc_recover.specs.Reads.{area_count, store_of}
use Rattle.lc_recover.proofs.Images.{get-pages_read, in-segment, length-pages_read, shape-of}
use Rattle.lc_settled.specs.Numbers.{Numbers}
use Rattle.lc_desk.specs.Pages.{IsStored}

-- a page of the store that images read as, and the image it is read of
pub record PageOf (g : Geometry) (images : List (List ℕ)) (segment page : ℕ) (text : Page) : Type 0 where
  pub before : ℕ
  pub next : segment ≡ before + 1
  pub known : before < g.segments
  pub within : page < g.pages
  pub image : List ℕ
  pub image_is : slice_get images (g.nodes + before) ≡ Some image
  pub text_is : page_read image page ≡ text

module _ (g : Geometry) (images : List (List ℕ)) (count : length images ≡ area_count g) where
  count_segments : length (store_of g images).pages ≡ g.segments
  count_segments = length-map (drop g.nodes images) (pages_read g.pages) ∙ omega (arith, length-drop g.nodes images, count)

  pub pages_shape : map length (store_of g images).pages ≡ replicate g.segments g.pages
  pages_shape = shape-of g.segments g.pages (store_of g images).pages count_segments (λ s pages is.
      let one = from-map (pages_read g.pages) (drop g.nodes images) s pages is in
      ap (λ (ps : List Page). length ps) (sym one.2) ∙ length-pages_read g.pages one.0)

  pub page_of : (segment page : ℕ) (text : Page) → slice_get (segment_of segment (store_of g images).pages) page ≡ Some text → PageOf g images segment page text
  page_of segment page text is =
      let found = in-segment segment page (store_of g images).pages text is in
      let known : found.before < g.segments = omega (arith, slice_get_within (store_of g images).pages found.before found.part found.part_is, count_segments) in
      let one = from-map (pages_read g.pages) (drop g.nodes images) found.before found.part found.part_is in
      let read : slice_get (pages_read g.pages one.0) page ≡ Some text = ap (λ (ps : List Page). slice_get ps page) one.2 ∙ found.item_is in
      let within : page < g.pages = omega (arith, slice_get_within (pages_read g.pages one.0) page text read, length-pages_read g.pages one.0) in
      record {
        before = found.before;
        next = omega (arith, found.next);
        known = known;
        within = within;
        image = one.0;
        image_is = sym (get-drop g.nodes found.before images) ∙ one.1;
        text_is = same_some (page_read one.0 page) text (sym (get-pages_read g.pages one.0 page within) ∙ read);
      }

-- a page that the numbers allow, as a recovery reads it
pub shows_stored : (segment page : ℕ) (image : List ℕ) (x : Numbers) (text : Page) → IsStored segment page image x → page_read image page ≡ text → Shows x.disks segment page text
shows_stored segment page image x text stored is =
    let same : stored.text ≡ text = ap (λ (p : PageText). record { sequence = p.sequence; bytes = p.content }) (sym stored.reads) ∙ is in
    subst (λ (t : Page). Shows x.disks segment page t) same stored.shows
