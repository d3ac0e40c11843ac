use Rattle.std.proofs.Common.{◌≡◌, ℕ, List, [], Some, refl, sym, subst}
use Rattle.fuse_wire.specs.Names.{behind_names}
use Rattle.fuse_wire.proofs.ZeroBytes.{second_name, not_unclosed, whole_rest}
use Rattle.fuse_wire.proofs.names.names_at.Goals as goal

pub trim_name-requires : goal.trim_name-requires
trim_name-requires c =
    let rest = whole_rest c.args.place c.args.body.now in
    second_name _ _ _ c.in-Some.ensures.name c.in-Some.ensures.closed (subst (λ (x : List ℕ). behind_names 2 x ≡ Some []) (sym rest) c.requires.names)

pub unreachable-requires : goal.unreachable-requires
unreachable-requires c =
    let rest = whole_rest c.args.place c.args.body.now in
    not_unclosed _ (c.in-None.ensures.unclosed refl) (subst (λ (x : List ℕ). behind_names 2 x ≡ Some []) (sym rest) c.requires.names)
