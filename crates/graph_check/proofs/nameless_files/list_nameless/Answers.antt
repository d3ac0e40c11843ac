use Rattle.std.proofs.Common.{◌≡◌, ℕ, ◌+◌, List, sym, ap, ◌∙◌, subst, true, false, arith}
use Rattle.graph_check.proofs.ListGrows.{AreBelow, below_more, below_same, all_below, nameless_row}
use Rattle.graph_check.proofs.nameless_files.list_nameless.Goals as goal
use Rattle.graph_check.proofs.nameless_files.list_nameless.Goals.{then-is_nameless_head+in_ok-push, else-is_nameless_head}

pub loop-inode-preserved : goal.loop-inode-preserved
loop-inode-preserved c = λ g read.
    let i = c.loop-inode.inode in
    elim c.if-is_nameless_head.branch [
      | then-is_nameless_head+in_ok-push w ↦
          let is = nameless_row g i c.row.result c.is_nameless_head.result true (omega arith, omega arith) (c.row.ensures g read) c.is_nameless_head.ensures (let t : c.is_nameless_head.result ≡ true = cc in t) in
          subst (λ (xs : List ℕ). AreBelow g (i + 1) xs) (sym (ap (λ v. v.items) w.inodes-is ∙ w.in_ok-push.ensures.items)) (below_more g i c.loop-inode.inodes.items c.loop-inode.auto.inode is (c.loop-inode.invariant g read))
      | else-is_nameless_head w ↦
          let is = nameless_row g i c.row.result c.is_nameless_head.result false (omega arith, omega arith) (c.row.ensures g read) c.is_nameless_head.ensures (let t : c.is_nameless_head.result ≡ false = cc in t) in
          subst (λ (xs : List ℕ). AreBelow g (i + 1) xs) (sym (ap (λ v. v.items) w.inodes-is)) (below_same g i c.loop-inode.inodes.items is (c.loop-inode.invariant g read))
    ]

pub returns : goal.returns
returns c = λ g read. all_below g c.loop-inode.inodes.items (subst (λ (n : ℕ). AreBelow g n c.loop-inode.inodes.items) (let e : c.loop-inode.inode ≡ 1025 = omega arith in e) (c.loop-inode.invariant g read))
