-- Of nodes that run: the geometry of a store stays, and what it does not have is unknown.
use Rattle.std.proofs.Common.{◌≡◌, ◌≢◌, true, false, refl, sym, ap, ◌∙◌, true≢false}
use Rattle.lc_record.specs.declared.geometry.Geometry.{Geometry}
use Rattle.lc_model.specs.Refusals.{is_known}
use Rattle.lc_model.specs.declared.event.Event.{Event}
use Rattle.lc_model.specs.declared.refusal.Refusal.TheVariants.{Unknown}
use Rattle.lc_model.specs.declared.reply.Reply.{Reply}
use Rattle.lc_model.specs.declared.reply.Reply.TheVariants.{Refused}
use Rattle.lc_journal.specs.FaultReplies.{is_unknown}
use Rattle.lc_events.specs.Geometries.{RefusesUnknown, is_delivery}

pub not_unknown : (reply : Reply) → is_unknown reply ≡ false → reply ≢ Refused Unknown
not_unknown reply plain is = true≢false (sym (ap is_unknown is) ∙ plain)

-- what is known is refused for reasons of its own
pub refuses_known : (g : Geometry) (event : Event) (reply : Reply) → is_known g event ≡ true → is_unknown reply ≡ false → RefusesUnknown g event reply
refuses_known g event reply known plain = record {
  outside = λ out. absurd (true≢false (sym known ∙ out));
  inside = λ within other. not_unknown reply plain;
}

pub refuses_delivery : (g : Geometry) (event : Event) (reply : Reply) → is_known g event ≡ true → is_delivery event ≡ true → RefusesUnknown g event reply
refuses_delivery g event reply known delivers = record {
  outside = λ out. absurd (true≢false (sym known ∙ out));
  inside = λ within other. absurd (true≢false (sym delivers ∙ other));
}

pub refuses_outside : (g : Geometry) (event : Event) → is_known g event ≡ false → RefusesUnknown g event (Refused Unknown)
refuses_outside g event out = record { outside = λ _. refl; inside = λ within. absurd (true≢false (sym within ∙ out)) }
