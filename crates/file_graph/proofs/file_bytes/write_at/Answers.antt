use Rattle.std.proofs.Common.{◌≡◌, ◌+◌, ◌-◌, ◌≤◌, ◌++◌, List, ℕ, take, drop, length, min, ap, sym, ◌∙◌, arith}
use Rattle.std.specs.Global.{Vec}
use Rattle.std.proofs.lemmas.List.{take_all, length-take, length-drop}
use Rattle.file_graph.proofs.Writes.{write_over, settled}
use Rattle.file_graph.proofs.file_bytes.write_at.Goals as goal

-- the two counts of a vector's elements
long : (v : Vec ℕ) → length v.items ≡ v.len
long v = sym v.ok.0

pub returns-clause-ok : goal.returns-clause-ok
returns-clause-ok c =
    let at : ℕ = c.args.at in
    let within : ℕ = c.min-within.result in
    let new : List ℕ = c.args.bytes.now in
    let old : List ℕ = c.args.file.now.items in
    let items : List ℕ = c.extend_from_slice-2.new.self.items in
    let size : length old ≡ c.args.file.now.len = long c.args.file.now in
    let front : at ≤ length old = omega (arith, size, c.len.ensures, c.if-len-at.false) in
    let is : within ≡ min (length new) (length old - at) = omega (arith, size, c.len-2.ensures, c.min-within.ensures) in
    let part : length (take within new) ≡ within = omega (arith, is, length-take within new) in
    let fits : at + length (take within new) ≤ length c.deref_mut.result.now = omega (arith, part, is, front, size, c.deref_mut.ensures.len, c.in_ok-extend_from_slice.ensures.len) in
    let rest : take (length new - within) (drop within new) ≡ drop within new = take_all (length new - within) (drop within new) (omega (arith, length-drop within new)) in
    let grown : items ≡ old ++ drop within new = c.in_ok-extend_from_slice.ensures.items ∙ ap (λ (x : List ℕ). old ++ x) rest in
    settled c.extend_from_slice-2.new.self.len at (take within new) items c.deref_mut.result.now c.overwrite.new.file c.deref_mut.ensures.value c.deref_mut.ensures.len fits c.overwrite.ensures
    ∙ ap (λ (n : ℕ). take at items ++ take within new ++ drop (at + n) items) part
    ∙ ap (λ (x : List ℕ). take at x ++ take within new ++ drop (at + within) x) grown
    ∙ write_over at within new old front is
