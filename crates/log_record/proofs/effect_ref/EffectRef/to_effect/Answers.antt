use Rattle.std.proofs.Common.{◌≡◌, true, sym, ap, ◌∙◌}
use Rattle.std.specs.Prelude.{◌&&◌}
use Rattle.file_graph.specs.declared.effect.Effect.TheVariants as effect
use Rattle.posix_calls.specs.Name.{is_name}
use Rattle.log_record.specs.declared.effect_ref.EffectRef.{EffectRef}
use Rattle.log_record.specs.Grammar.{fits, is_inode}
use Rattle.log_record.specs.Outcome.{owned_effect}
use Rattle.log_record.proofs.Effects.{and_parts}
use Rattle.log_record.proofs.effect_ref.EffectRef.to_effect.Goals as goal

pub own_swap-requires-clause-other_name : goal.own_swap-requires-clause-other_name
own_swap-requires-clause-other_name c =
    let d = c.in-Swap.directory in
    let a = c.in-Swap.name.now in
    let e = c.in-Swap.other in
    let b = c.in-Swap.other_name.now in
    let all : fits (effect.Swap d a e b) ≡ true = ap (λ (x : EffectRef). fits (owned_effect x)) (sym c.in-Swap.is) ∙ sym c.fits.ensures ∙ c.if-not-fits.false in
    (and_parts (is_inode d && is_name a && is_inode e) (is_name b) all).1
