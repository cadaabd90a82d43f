-- Versions: the later of two, and that of a list that grows.
use Rattle.std.proofs.Common.{◌≡◌, Bool, true, false, cond, leb, ◌&&◌, List, ◌∷◌, refl}
use Rattle.std.specs.List.{list_all}
use Rattle.lc_record.specs.GrammarVersion.{later, end_of, version_to, version_for}
use Rattle.lc_record.specs.Record.{span_of, spans_of, version_of}
use Rattle.lc_record.specs.declared.grammar_version.GrammarVersion.{GrammarVersion}
use Rattle.lc_record.specs.declared.grammar_version.GrammarVersion.TheVariants.{First, Second}
use Rattle.lc_record.specs.declared.record.RangeData.{RangeData}
use Rattle.lc_record.specs.declared.span.Span.{Span}

pub later_first : (v : GrammarVersion) → later v First ≡ v
later_first First = refl
later_first Second = refl

pub later_assoc : (u v w : GrammarVersion) → later u (later v w) ≡ later (later u v) w
later_assoc First v w = refl
later_assoc Second v w = refl

of_both : (a b : Bool) → cond {A = GrammarVersion} (a && b) First Second ≡ later (cond a First Second) (cond b First Second)
of_both true true = refl
of_both true false = refl
of_both false b = refl

pub version_for-cons : (span : Span) (spans : List Span) → version_for (span ∷ spans) ≡ later (version_to (end_of span)) (version_for spans)
version_for-cons span spans = of_both (leb (end_of span) 16384) (list_all (λ s. leb (end_of s) 16384) spans)

pub version_of-cons : (range : RangeData) (ranges : List RangeData) → version_of (range ∷ ranges) ≡ later (version_to (end_of (span_of range))) (version_of ranges)
version_of-cons range ranges = version_for-cons (span_of range) (spans_of ranges)
