-- A log stands at its client's mark where the mark is the one that it wants.
use Rattle.std.proofs.Common.{◌≡◌, ◌<◌, ◌==◌, ℕ, Bool, true, List, length, get_or, refl, sym, ◌∙◌, subst}
use Rattle.std.specs.Prelude.{◌↔◌}
use Rattle.std.proofs.lemmas.Bool.{and_from, and_parts, eq-eqb, eqb-true}
use Rattle.std.proofs.lemmas.List.{get_or_default}
use Rattle.shared_area.specs.layout.declared.marks.Mark.{Mark}
use Rattle.shared_area.specs.layout.declared.marks.Marks.{Marks}
use Rattle.digester.specs.MarkMoves.{is_mark, mark_after, mark_of}
use Rattle.digester.specs.SealedLog.{SealedView, StandsAt}

-- the mark that is read at a place
pub mark_there : (ms : List Mark) (client : ℕ) (m : Mark) → client < length ms → m ≡ get_or ms client m → m ≡ get_or ms client (record { generation = 0; done = 0 })
mark_there ms client m inside is = is ∙ get_or_default ms client m (record { generation = 0; done = 0 }) inside

same_mark : (m o : Mark) → is_mark m o ≡ true → m ≡ o
same_mark m o is =
    let parts = and_parts (m.generation == o.generation) (m.done == o.done) is in
    let generation : m.generation ≡ o.generation = eqb-true m.generation o.generation parts.0 in
    let done : m.done ≡ o.done = eqb-true m.done o.done parts.1 in
    λ k. record { generation = generation k; done = done k }

own_mark : (m : Mark) → is_mark m m ≡ true
own_mark m = and_from (m.generation == m.generation) (m.done == m.done) (eq-eqb m.generation m.generation refl) (eq-eqb m.done m.done refl)

pub stands_exactly : (x : SealedView) (v : Marks) (m o : Mark) (r : Bool) → r ≡ is_mark m o → m ≡ mark_of v x.client → o ≡ mark_after x.generation x.done (length x.records) → (r ≡ true) ↔ StandsAt x v
stands_exactly x v m o r told its wanted = (
  λ yes. sym its ∙ same_mark m o (sym told ∙ yes) ∙ wanted,
  λ stands. told ∙ subst (λ (k : Mark). is_mark m k ≡ true) (its ∙ stands ∙ sym wanted) (own_mark m),
)
