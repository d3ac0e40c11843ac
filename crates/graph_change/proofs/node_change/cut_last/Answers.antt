use Rattle.std.proofs.Common.{rules, ◌≡◌, refl, subst, Some, None, sym, ap, ◌∙◌, ◌/◌, ◌%◌}
use Rattle.std.specs.Prelude.{option_map, IsSome}
use Rattle.std.specs.Ordering.{nat_cmp}
use Rattle.std.specs.BTreeMap.{get}
use Rattle.posix_calls.specs.declared.limits.TheConstants.{UNIT_BYTES}
use Rattle.std.specs.FinMap as fin
use Rattle.graph_change.specs.Change.{Patches, cut_patch}
use Rattle.graph_change.specs.View.{patch_of, patches_of}
use Rattle.graph_change.proofs.Maps.{value_at, put_at}
use Rattle.graph_change.proofs.node_change.cut_last.Goals as goal

pub returns-in-Some : goal.returns-in-Some
returns-in-Some c =
    let n = c.args.size in
    let old = patches_of c.args.blocks.now in
    put_at patch_of c.args.blocks.now (c.get_mut.follows.lender c.cut.new.self) (n / UNIT_BYTES) c.cut.new.self (cut_patch (n % UNIT_BYTES) (patch_of c.in-Some.last.now))
    (λ t p. c.cut.ensures p t)
    ((c.get_mut.follows.holds c.cut.new.self).3 (subst IsSome c.in-Some.ensures.value refl))
    ∙ sym (ap (λ o. elim o as (λ x. Patches) [ None ↦ old | Some f ↦ fin.insert old (n / UNIT_BYTES) (cut_patch (n % UNIT_BYTES) f) ])
    (value_at patch_of c.args.blocks.now (n / UNIT_BYTES) ∙ ap (option_map patch_of) (sym c.in-Some.ensures.value)))

pub returns-in_default : goal.returns-in_default
returns-in_default c =
    let n = c.args.size in
    let old = patches_of c.args.blocks.now in
    let none : get nat_cmp c.args.blocks.now (n / UNIT_BYTES) ≡ None = search rules in
    let same : c.get_mut.follows.lender-at-none ≡ c.args.blocks.now = search rules in
    ap patches_of same
    ∙ sym (ap (λ o. elim o as (λ x. Patches) [ None ↦ old | Some f ↦ fin.insert old (n / UNIT_BYTES) (cut_patch (n % UNIT_BYTES) f) ])
    (value_at patch_of c.args.blocks.now (n / UNIT_BYTES) ∙ ap (option_map patch_of) none))
