use Rattle.std.proofs.Common.{◌≡◌, ◌+◌, ap, ◌∙◌, sym, subst, true, false, Bool, cond, arith, set}
use Rattle.record_validation.specs.file_graph.Graph.{Graph}
use Rattle.graph_check.specs.Tables.{IsRead}
use Rattle.graph_check.proofs.Marks.{Spreads, spreads_on, spreads_same}
use Rattle.graph_check.proofs.reachability.spread_marks.Goals as goal
use Rattle.graph_check.proofs.reachability.spread_marks.Goals.{then-mark_child, else-mark_child}

pub loop-inode-preserved : goal.loop-inode-preserved
loop-inode-preserved c =
    let i = c.loop-inode.inode in
    let T : Graph → Type 0 = λ g. IsRead g 1024 c.args.tables.now in
    let v = c.loop-inode.invariant in
    let now : Spreads T c.args.marks.now c.loop-inode.marks i c.loop-inode.has_spread = record { places = v.places; root = v.root; climb = v.climb; no_more = v.no_more; fewer = v.fewer; closed = v.closed } in
    let next : Spreads T c.args.marks.now c.mark_child.new.marks (i + 1) c.if-mark_child.has_spread = elim c.if-mark_child.branch [
      | then-mark_child w ↦
          let t : c.mark_child.result ≡ true = cc in
          subst (λ (b : Bool). Spreads T c.args.marks.now c.mark_child.new.marks (i + 1) b) (sym w.has_spread-is)
          (spreads_on T c.args.marks.now c.loop-inode.marks c.mark_child.new.marks i c.loop-inode.has_spread (omega arith) (c.mark_child.ensures.marked ∙ ap (λ b. cond b (set c.loop-inode.marks i true) c.loop-inode.marks) t) (c.mark_child.ensures.was t) (c.mark_child.ensures.climbs t) now)
      | else-mark_child w ↦
          let t : c.mark_child.result ≡ false = cc in
          subst (λ (b : Bool). Spreads T c.args.marks.now c.mark_child.new.marks (i + 1) b) (sym w.has_spread-is)
          (spreads_same T c.args.marks.now c.loop-inode.marks c.mark_child.new.marks i c.loop-inode.has_spread (c.mark_child.ensures.marked ∙ ap (λ b. cond b (set c.loop-inode.marks i true) c.loop-inode.marks) t) (c.mark_child.ensures.closed t) now)
    ] in
    record { places = next.places; root = next.root; climb = next.climb; no_more = next.no_more; fewer = next.fewer; closed = next.closed }
