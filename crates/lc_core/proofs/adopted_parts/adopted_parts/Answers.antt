use Rattle.lc_core.proofs.PartsAdopt.{parts_adopt}
use Rattle.lc_core.proofs.adopted_parts.adopted_parts.Goals as goal

pub returns : goal.returns
returns g c = λ parts h segments tokens pieces areas up world kept read passes areas_read built adopted phase.
    parts_adopt _ parts h segments tokens pieces areas (record { kept = kept; read = read; passes = passes; built = built }) up world areas_read adopted phase
