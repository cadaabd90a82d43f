-- What stands in a node's slots beside the images of its transactions, against the machine and the numbers.
use Rattle.std.specs.Prelude.{◌≡◌, ◌≤◌, ◌<◌, ℕ, ◌+◌, ◌^◌, List, [], map, length, All, Option, Some, slice_get}
use Rattle.std.specs.Option.{ForSome}
use Rattle.lc_page.specs.PageVector.{entry_at, entry_text}
use Rattle.lc_record.specs.Content.{segment_of}
use Rattle.lc_record.specs.Part.{part_of}
use Rattle.lc_record.specs.Transaction.{effects}
use Rattle.lc_record.specs.declared.part.Part.{Part}
use Rattle.lc_record.specs.declared.record.Record.{Record}
use Rattle.lc_token.specs.Backlog.{Backlog, Ascends}
use Rattle.lc_token.specs.Standing.{Standing}
use Rattle.lc_token.specs.declared.token.Token.{Token}
use Rattle.lc_token.specs.Clean.{all_of}
use Rattle.lc_tx.specs.declared.holders.Holders.TheVariants.{Free}
use Rattle.lc_tx.specs.declared.image.Image.{Image as Picture}
use Rattle.lc_model.specs.State.{Setting, State}
use Rattle.lc_model.specs.Stored.{Disks, base, up_to}
use Rattle.lc_desk.specs.Here.{beside}
use Rattle.lc_settled.specs.Numbers.{Numbers, token_number, stable}
use Rattle.lc_desk.specs.declared.here.Here.{Here}

-- a slot's token, its parts from peers, and its image where the token is elsewhere
abbrev pub Besides : Type 0
Besides = Standing × Backlog × Option Picture

-- those of all segments
abbrev pub besides_of : Here → List Besides
besides_of here = map beside here.slots.items

-- a slot is of its segment, and none of its parts waits to be put on its image
abbrev pub AreInPlace : List Besides → Type 0
AreInPlace bs = (k : ℕ) (b : Besides) → slice_get bs k ≡ Some b → (b.0.segment ≡ k + 1) × (b.1.segment ≡ k + 1) × (b.1.due ≡ [])

-- the segment as its transactions with numbers up to this one make it
abbrev pub segment_to : Setting → State → Disks → ℕ → ℕ → List ℕ
segment_to m s d segment number = segment_of segment (effects (up_to d s segment number) (base m s))

-- what a token says of its segment
pub record FitsToken (m : Setting) (segment : ℕ) (token : Token) (s : State) (x : Numbers) : Type 0 where
  pub segment_is : token.segment ≡ segment
  pub number : token.seq ≡ token_number s x segment
  -- a page can have it
  pub small : token.seq ≤ 2 ^ 60
  pub clean : token.clean ≡ x.clean segment
  pub pages : length token.pages ≡ m.geometry.pages
  pub touched : (page : ℕ) → page < m.geometry.pages → (entry_at token.pages page).touched ≡ x.touched segment page
  pub stable_is : (page : ℕ) → page < m.geometry.pages → (entry_at token.pages page).stable ≡ stable x segment page
  pub text_is : (page : ℕ) → page < m.geometry.pages → entry_text (entry_at token.pages page) ≡ x.texts segment page
  -- who refers to a page is known from what the threads are doing, not counted here
  pub uncounted : (page : ℕ) → page < m.geometry.pages → (entry_at token.pages page).uncommitted ≡ 0

-- a part that waits is that of a record of the segment which is closed
pub record Awaits (m : Setting) (s : State) (x : Numbers) (segment : ℕ) (part : Part) : Type 0 where
  pub place : ℕ
  pub whole : Record
  pub found : slice_get (all_of m s x.disks) place ≡ Some whole
  pub part_is : part_of segment whole ≡ Some part
  pub closed : part.seq ≤ token_number s x segment

pub record FitsSlot (m : Setting) (node segment : ℕ) (b : Besides) (s : State) (x : Numbers) : Type 0 where
  -- up to which number the node has the segment's records, and what waits after a gap
  pub applied : b.1.applied ≡ x.applied node segment
  pub within : x.applied node segment ≤ token_number s x segment
  pub waiting : map (λ (p : Part). p.seq) b.1.kept ≡ x.waiting node segment
  pub ascends : Ascends b.1.applied b.1.kept
  pub parts : All (Awaits m s x segment) b.1.kept
  -- where the token is, none is missing
  pub token : ForSome b.0.token (λ token. FitsToken m segment token s x × (x.applied node segment ≡ token_number s x segment))
  -- elsewhere no transaction has the image, and it shows what is applied
  pub image : ForSome b.2 (λ image. (image.holders ≡ Free) × (image.bytes.items ≡ segment_to m s x.disks segment (x.applied node segment)))

pub record FitsSlots (m : Setting) (node : ℕ) (bs : List Besides) (s : State) (x : Numbers) : Type 0 where
  pub count : length bs ≡ m.geometry.segments
  pub each : (k : ℕ) (b : Besides) → slice_get bs k ≡ Some b → FitsSlot m node (k + 1) b s x
