use Rattle.std.proofs.Common.{◌≡◌, ◌≤◌, ◌++◌, ◌∷◌, [], length, inl, inr, refl, arith}
use Rattle.std.proofs.lemmas.Result.{err_from_is_err_and}
use Rattle.mount_nodes.proofs.ReadLemmas.{full_piece, is_next_read, piece_is_asked, pieces_more, refusal_is_asked}
use Rattle.mount_nodes.proofs.files.read_pieces.Goals as goal

pub returns-in_err-piece : goal.returns-in_err-piece
returns-in_err-piece g c =
    let same : c.len.result ≡ length c.loop-turn.bytes.items = omega (arith, c.loop-turn.bytes.ok.0) in
    let call = is_next_read c.args.number c.args.at c.args.wanted c.saturating_add-from.result c.min-count.result c.len.result c.saturating_sub.result c.loop-turn.bytes.items same (omega arith) c.saturating_sub.ensures c.min-count.ensures in
    let p = err_from_is_err_and c.from_residual.result c.from_residual.ensures.1 in
    rw (p.1, p.2) (c.loop-turn.invariant.0, c.loop-turn.bytes.items, c.loop-turn.tree, c.loop-turn.invariant.1, inr (refusal_is_asked g.T.Tree _ _ _ _ _ call c.in_err-piece.ensures))

pub returns-in_err-add_piece : goal.returns-in_err-add_piece
returns-in_err-add_piece g c =
    let same : c.len.result ≡ length c.loop-turn.bytes.items = omega (arith, c.loop-turn.bytes.ok.0) in
    let call = is_next_read c.args.number c.args.at c.args.wanted c.saturating_add-from.result c.min-count.result c.len.result c.saturating_sub.result c.loop-turn.bytes.items same (omega arith) c.saturating_sub.ensures c.min-count.ensures in
    let asked = piece_is_asked g.T.Tree _ _ c.in_ok-piece.piece _ _ call c.in_ok-piece.ensures in
    let more = pieces_more g.T.Tree c.args.number c.args.at c.args.wanted c.loop-turn.invariant.0 [] c.loop-turn.bytes.items c.in_ok-piece.piece _ _ _ c.loop-turn.invariant.1 asked in
    let p = err_from_is_err_and c.from_residual-in_err-add_piece.result c.from_residual-in_err-add_piece.ensures.1 in
    rw (p.1, p.2) (c.loop-turn.invariant.0 ++ c.in_ok-piece.piece ∷ [], _, _, more, inl (refl, refl))

pub loop-turn-preserved : goal.loop-turn-preserved
loop-turn-preserved g c =
    let same : c.len.result ≡ length c.loop-turn.bytes.items = omega (arith, c.loop-turn.bytes.ok.0) in
    let call = is_next_read c.args.number c.args.at c.args.wanted c.saturating_add-from.result c.min-count.result c.len.result c.saturating_sub.result c.loop-turn.bytes.items same (omega arith) c.saturating_sub.ensures c.min-count.ensures in
    let asked = piece_is_asked g.T.Tree _ _ c.in_ok-piece.piece _ _ call c.in_ok-piece.ensures in
    let more = pieces_more g.T.Tree c.args.number c.args.at c.args.wanted c.loop-turn.invariant.0 [] c.loop-turn.bytes.items c.in_ok-piece.piece _ _ _ c.loop-turn.invariant.1 asked in
    let reached = full_piece c.loop-turn.turn c.args.wanted c.min-count.result c.len-len.result c.loop-turn.bytes.items c.in_ok-piece.piece (omega arith) (omega arith) (omega arith) c.loop-turn.invariant.2 in
    (c.loop-turn.invariant.0 ++ c.in_ok-piece.piece ∷ [], rw c.in_ok-add_piece.ensures more, rw c.in_ok-add_piece.ensures reached)

pub returns-then-count-eq0 : goal.returns-then-count-eq0
returns-then-count-eq0 g c =
    let all : c.args.wanted ≤ length c.loop-turn.bytes.items = omega (arith, c.loop-turn.bytes.ok.0, c.min-count.ensures, c.saturating_sub.ensures, c.if-count-eq0.true) in
    (c.loop-turn.invariant.0, c.loop-turn.bytes.items, c.loop-turn.tree, c.loop-turn.invariant.1, inl (all, c.from_vec.ensures, refl))

pub returns : goal.returns
returns g c =
    let all : c.args.wanted ≤ length c.loop-turn.bytes.items = elim c.loop-turn.invariant.2 [ inl reached ↦ omega (arith, reached) | inr enough ↦ enough ] in
    (c.loop-turn.invariant.0, c.loop-turn.bytes.items, c.loop-turn.tree, c.loop-turn.invariant.1, inl (all, c.from_vec-2.ensures, refl))
