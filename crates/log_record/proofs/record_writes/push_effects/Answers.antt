use Rattle.std.proofs.Common.{ap, arith, length}
use Rattle.std.proofs.lemmas.List.Folds.{length-flat_map-take}
use Rattle.file_graph.specs.declared.effect.Effect.{Effect}
use Rattle.log_record.specs.Grammar.{effect_bytes}
use Rattle.log_record.proofs.record_writes.push_effects.Goals as goal

pub push_effect-requires-clause-room : goal.push_effect-requires-clause-room
push_effect-requires-clause-room c =
    let i = c.loop-effect.effect-index in
    let item = c.effect-item.result in
    let within = length-flat_map-take effect_bytes c.args.effects.now i item (omega arith) in
    omega (arith, within, ap (λ (e : Effect). length (effect_bytes e)) c.effect-item.is)
