use Rattle.std.proofs.Common.{◌∙◌, arith, sym, subst, List, [], ℕ}
use Rattle.std.specs.Prelude.{IsUtf8}
use Rattle.lc_folder.proofs.SizeLines.{behind_nodes, behind_pages, behind_segments, makes_same, no_number, size_is_text, size_lines, the_number}
use Rattle.lc_folder.proofs.size_text.size_in.Goals as goal

pub returns-in_default-clause-found : goal.returns-in_default-clause-found
returns-in_default-clause-found c = λ g said. absurd (c.in_default.ensures.cases.0 (subst (λ (bs : List ℕ). IsUtf8 bs) (sym said) (size_is_text g)))

pub returns-in_err-nodes-clause-found : goal.returns-in_err-nodes-clause-found
returns-in_err-nodes-clause-found c = λ g said.
    absurd (no_number _ _ (c.number_in.ensures g.nodes (behind_nodes g) (omega (arith, g.few_nodes)) (c.in-Ok.ensures.cases.0 ∙ said ∙ size_lines g)) c.in_err-nodes.was)

pub returns-in_err-segments-clause-found : goal.returns-in_err-segments-clause-found
returns-in_err-segments-clause-found c = λ g said.
    let nodes = the_number _ _ (c.in_ok-nodes.nodes, c.in_ok-nodes.text) (c.number_in.ensures g.nodes (behind_nodes g) (omega (arith, g.few_nodes)) (c.in-Ok.ensures.cases.0 ∙ said ∙ size_lines g)) c.in_ok-nodes.was in
    absurd (no_number _ _ (c.number_in-2.ensures g.segments (behind_segments g) (omega (arith, g.few_segments)) (nodes.1)) c.in_err-segments.was)

pub returns-in_err-pages-clause-found : goal.returns-in_err-pages-clause-found
returns-in_err-pages-clause-found c = λ g said.
    let nodes = the_number _ _ (c.in_ok-nodes.nodes, c.in_ok-nodes.text) (c.number_in.ensures g.nodes (behind_nodes g) (omega (arith, g.few_nodes)) (c.in-Ok.ensures.cases.0 ∙ said ∙ size_lines g)) c.in_ok-nodes.was in
    let segments = the_number _ _ (c.in_ok-segments.segments, c.in_ok-segments.text) (c.number_in-2.ensures g.segments (behind_segments g) (omega (arith, g.few_segments)) (nodes.1)) c.in_ok-segments.was in
    absurd (no_number _ _ (c.number_in-3.ensures g.pages (behind_pages g) (omega (arith, g.few_pages)) (segments.1)) c.in_err-pages.was)

pub returns-in_err-words-clause-found : goal.returns-in_err-words-clause-found
returns-in_err-words-clause-found c = λ g said.
    let nodes = the_number _ _ (c.in_ok-nodes.nodes, c.in_ok-nodes.text) (c.number_in.ensures g.nodes (behind_nodes g) (omega (arith, g.few_nodes)) (c.in-Ok.ensures.cases.0 ∙ said ∙ size_lines g)) c.in_ok-nodes.was in
    let segments = the_number _ _ (c.in_ok-segments.segments, c.in_ok-segments.text) (c.number_in-2.ensures g.segments (behind_segments g) (omega (arith, g.few_segments)) (nodes.1)) c.in_ok-segments.was in
    let pages = the_number _ _ (c.in_ok-pages.pages, c.in_ok-pages.text) (c.number_in-3.ensures g.pages (behind_pages g) (omega (arith, g.few_pages)) (segments.1)) c.in_ok-pages.was in
    absurd (no_number _ _ (c.number_in-4.ensures g.words ([]) (omega (arith, g.few_words)) (pages.1)) c.in_err-words.was)

pub returns-in_default-try_from-clause-found : goal.returns-in_default-try_from-clause-found
returns-in_default-try_from-clause-found c = λ g said.
    let nodes = the_number _ _ (c.in_ok-nodes.nodes, c.in_ok-nodes.text) (c.number_in.ensures g.nodes (behind_nodes g) (omega (arith, g.few_nodes)) (c.in-Ok.ensures.cases.0 ∙ said ∙ size_lines g)) c.in_ok-nodes.was in
    let segments = the_number _ _ (c.in_ok-segments.segments, c.in_ok-segments.text) (c.number_in-2.ensures g.segments (behind_segments g) (omega (arith, g.few_segments)) (nodes.1)) c.in_ok-segments.was in
    let pages = the_number _ _ (c.in_ok-pages.pages, c.in_ok-pages.text) (c.number_in-3.ensures g.pages (behind_pages g) (omega (arith, g.few_pages)) (segments.1)) c.in_ok-pages.was in
    let words = the_number _ _ (c.in_ok-words.words, c.in_ok-words.field-0-1) (c.number_in-4.ensures g.words ([]) (omega (arith, g.few_words)) (pages.1)) c.in_ok-words.was in
    absurd (c.in_default-try_from.ensures (omega (arith, g.few_nodes, nodes.0)))

pub returns-clause-found : goal.returns-clause-found
returns-clause-found c = λ g said.
    let nodes = the_number _ _ (c.in_ok-nodes.nodes, c.in_ok-nodes.text) (c.number_in.ensures g.nodes (behind_nodes g) (omega (arith, g.few_nodes)) (c.in-Ok.ensures.cases.0 ∙ said ∙ size_lines g)) c.in_ok-nodes.was in
    let segments = the_number _ _ (c.in_ok-segments.segments, c.in_ok-segments.text) (c.number_in-2.ensures g.segments (behind_segments g) (omega (arith, g.few_segments)) (nodes.1)) c.in_ok-segments.was in
    let pages = the_number _ _ (c.in_ok-pages.pages, c.in_ok-pages.text) (c.number_in-3.ensures g.pages (behind_pages g) (omega (arith, g.few_pages)) (segments.1)) c.in_ok-pages.was in
    let words = the_number _ _ (c.in_ok-words.words, c.in_ok-words.field-0-1) (c.number_in-4.ensures g.words ([]) (omega (arith, g.few_words)) (pages.1)) c.in_ok-words.was in
    makes_same g c.new.result c.in-Ok-try_from.nodes c.in_ok-segments.segments c.in_ok-pages.pages c.in_ok-words.words (c.in-Ok-try_from.ensures.1 ∙ nodes.0) segments.0 pages.0 words.0
    c.new.ensures.value c.new.ensures.within
