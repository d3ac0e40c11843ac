-- What a plain tree answers, from what its parts ensure.
use Rattle.std.proofs.Common.{◌≡◌, ℕ, zero, suc, ◌<◌, ◌≤◌, ◌-◌, List, [], Option, Result, Ok, Err, Bool, true, false, length, get_or, refl, ap, sym, subst, ◌∙◌, inl, inr, arith, ◌⊎◌}
use Rattle.std.specs.Prelude.{if◌then◌else◌}
use Rattle.std.proofs.lemmas.Bool.Decides.{nat_tests}
use Rattle.std.proofs.lemmas.List.{get_or_default}
use Rattle.posix_calls.specs.Tree.{Own, State}
use Rattle.posix_calls.specs.Own.{own_of}
use Rattle.posix_calls.specs.Query.{run, view_of}
use Rattle.posix_calls.specs.Part.{Known, run_part, whole_part}
use Rattle.posix_calls.specs.Decide.{decide}
use Rattle.posix_calls.specs.Operations.{answer, Follows, Step, makes, is_client}
use Rattle.posix_calls.specs.Exact.{IsLowest, IsAnswered, IsGivenUp}
use Rattle.plain_tree.specs.Plain.{Stored, IsConsistent, stored_tree, held_of, stored_state, IsDone, IsDropped, takes_room}
use Rattle.posix_calls.specs.declared.operation.Operation.{Operation}
use Rattle.posix_calls.specs.declared.call.Call.{Call}
use Rattle.posix_calls.specs.declared.call.Reply.{Reply}
use Rattle.posix_calls.specs.declared.call.Reply.TheVariants.{Failed}
use Rattle.posix_calls.specs.declared.descriptor.Descriptor.{Descriptor}
use Rattle.posix_calls.specs.declared.errno.Errno.{Errno}
use Rattle.posix_calls.specs.declared.errno.Errno.TheVariants as errno
use Rattle.plain_tree.proofs.Answering.{whole_knows, known_of}
use Rattle.plain_tree.proofs.Taking.{taken}
use Rattle.posix_calls.specs.Memory.{takes_memory}
use Rattle.posix_calls.proofs.Lasting.{step_fine}
use Rattle.posix_calls.proofs.Passing.{step_within}

abbrev Row : Type 0
Row = List (Option Descriptor)

pub row_of : (rows : List Row) (client : ℕ) (row : Row) → 0 < client → client ≤ length rows → row ≡ get_or rows (client - 1) row → held_of rows client ≡ own_of row
row_of rows zero row low high is = absurd (omega arith)
row_of rows (suc c) row low high is =
    let back : suc c - 1 ≡ c = omega arith in
    let here : row ≡ get_or rows c [] = is ∙ ap (λ (k : ℕ). get_or rows k row) back ∙ get_or_default rows c row [] (omega arith) in
    ap own_of (sym here)

pub among : (client : ℕ) → 0 < client → client ≤ 8 → is_client client ≡ true
among client low high = grind (arith, nat_tests)

pub outside : (client : ℕ) → (client ≡ 0) ⊎ (8 < client) → is_client client ≡ false
outside client (inl e) = grind (arith, nat_tests)
outside client (inr e) = grind (arith, nat_tests)

pub answer_is : (s : Stored) (client : ℕ) (call : Call) (row : Row) (r : Result Operation Errno) → is_client client ≡ true → held_of s.rows client ≡ own_of row
    → run_part (whole_part (view_of (stored_tree s.nodes))) (decide (own_of row) call) ≡ Known r → answer (stored_state s) client call ≡ r
answer_is s client call row r among held known =
    let v = view_of (stored_tree s.nodes) in
    let same : Known (run v (decide (own_of row) call)) ≡ Known r = sym (whole_knows v (decide (own_of row) call)) ∙ known in
    ap (λ (b : Bool). if b then run v (decide (held_of s.rows client) call) else Err errno.Invalid) among
    ∙ ap (λ (own : Own). run v (decide own call)) held
    ∙ cc

pub exact_of : (old after : State) (client : ℕ) (call : Call) (operation : Operation) (r : Reply) → answer old client call ≡ Ok operation → IsDone old client operation r after ⊎ IsDropped old operation r after
    → is_client client ≡ true → (takes_room operation ≡ true → takes_memory (whole_part (view_of old.tree)) (old.descriptors client) call ≡ true) → IsAnswered old client call r after ⊎ IsGivenUp old client call r after
exact_of old after client call operation r e (inl done) is takes =
    let lowest : (d : Operation) → answer old client call ≡ Ok d → makes d ≡ true → IsLowest old.tree done.0 = λ d f m. let same : operation ≡ d = cc in done.1 (ap makes same ∙ m) in
    inl (done.0, lowest, subst (λ a. Follows old client done.0 a r after) (sym e) (λ m. (done.1 m).free, done.2, done.3))
exact_of old after client call operation r e (inr (inl gone, same)) is takes = inr (inl (gone.0, is, takes gone.1), same)
exact_of old after client call operation r e (inr (inr full, same)) is takes = inr (inr (full.0, (operation, e, full.1), full.2), same)

pub step_of : (old after : State) (client : ℕ) (call : Call) (r : Reply) → IsAnswered old client call r after ⊎ IsGivenUp old client call r after → Step old client call r after
step_of old after client call r (inl done) = inl (done.0, done.2)
step_of old after client call r (inr (inl gone, same)) = inr (errno.NoMemory, refl, gone.0, same)
step_of old after client call r (inr (inr full, same)) = inr (errno.NoSpace, refl, full.0, same)

-- an error that the call is answered
pub refused_of : (s : Stored) (client : ℕ) (call : Call) (e : Errno) → answer (stored_state s) client call ≡ Err e → IsAnswered (stored_state s) client call (Failed e) (stored_state s)
refused_of s client call e is =
    (0, λ d f m. absurd (cc), subst (λ a. Follows (stored_state s) client 0 a (Failed e) (stored_state s)) (sym is) (refl, refl))

-- the operation of a client's call was done or given up; what is stored is seen as one value
pub came_of : (held now : Stored) (client : ℕ) (call : Call) (operation : Operation) (r : Reply) (after : State) (row : Row) → held ≡ now → 0 < client → client ≤ 8 → length held.rows ≡ 8 → row ≡ get_or held.rows (client - 1) row → IsConsistent (stored_state held)
    → run_part (whole_part (view_of (stored_tree now.nodes))) (decide (own_of row) call) ≡ Known (Ok operation) → IsDone (stored_state held) client operation r after ⊎ IsDropped (stored_state held) operation r after → IsAnswered (stored_state now) client call r after ⊎ IsGivenUp (stored_state now) client call r after
came_of held now client call operation r after row seen low high rows is sound known done =
    let own = ap (λ (s : Stored). held_of s.rows client) (sym seen) ∙ row_of held.rows client row low (omega (arith, rows, high)) is in
    let fine = subst (λ (s : Stored). IsConsistent (stored_state s)) seen sound in
    let comes : run (view_of (stored_tree now.nodes)) (decide (held_of now.rows client) call) ≡ Ok operation =
    ap (λ (o : Own). run (view_of (stored_tree now.nodes)) (decide o call)) own ∙ known_of (view_of (stored_tree now.nodes)) (decide (own_of row) call) (Ok operation) known in
    exact_of (stored_state now) after client call operation r (answer_is now client call row (Ok operation) (among client low high) own known) (subst (λ (s : Stored). IsDone (stored_state s) client operation r after ⊎ IsDropped (stored_state s) operation r after) seen done)
    (among client low high) (taken (stored_state now) fine.0 client call operation comes)

-- the state stays sound
pub sound_after : (old after : State) (client : ℕ) (call : Call) (r : Reply) → IsConsistent old → Step old client call r after → IsConsistent after
sound_after old after client call r sound step = (step_fine old client call r after sound.0 step, step_within old client call r after sound.0 sound.1 step)
