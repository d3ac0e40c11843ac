-- The marks of the shared medium, where one client's moves.
use Rattle.std.proofs.Common.{◌≡◌, ◌≢◌, ℕ, zero, suc, ◌-◌, ◌==◌, true, List, [], ◌∷◌, length, Some, refl, ap, sym, ◌∙◌, subst, arith}
use Rattle.std.proofs.lemmas.List.{length-set, get_or-set_same, get_or-set_other}
use Rattle.posix_calls.specs.Operations.{is_client}
use Rattle.event_steps.specs.layout.Bytes.{Field, are_zero, items_at, number_at}
use Rattle.event_steps.specs.layout.Marks.{mark_at, marks_at, marks_of}
use Rattle.event_steps.specs.layout.declared.marks.Mark.{Mark}
use Rattle.event_steps.specs.layout.declared.marks.Marks.{Marks}
use Rattle.event_steps.specs.layout.declared.places.TheConstants.{BLOCK, MARKS_BLOCK}
use Rattle.tier_device.specs.declared.media.Tier.TheVariants as tiers
use Rattle.event_steps.specs.area_reader.Store.{Store, marks}
use Rattle.event_steps.specs.digester.MarkMoves.{marks_after}
use Rattle.event_steps.proofs.file_graph_lemmas.Fields.{bind_some, guard_some, some_is, test_some}
use Rattle.event_steps.proofs.world_invariant_lemmas.Owners.{is_high, is_low}
use Rattle.recovery_laws.specs.Contents.{mark_by}

as_many : {A : Type 0} (field : Field A) (n : ℕ) (bytes : List ℕ) (x : List A × List ℕ) → items_at field n bytes ≡ Some x → length x.0 ≡ n
unfolding items_at
as_many {A = A} field zero bytes x e = subst (λ (y : List A × List ℕ). length y.0 ≡ 0) (some_is ([], bytes) x e) refl
as_many {A = A} field (suc n) bytes x e =
    let a = bind_some (field bytes) _ x e in
    let b = bind_some (items_at field n a.0.1) _ x a.2 in
    let made : List A × List ℕ = (a.0.0 ∷ b.0.0, b.0.1) in
    subst (λ (y : List A × List ℕ). length y.0 ≡ suc n) (some_is made x b.2) (ap suc (as_many field n a.0.1 b.0 b.1))

all_eight : (bytes : List ℕ) (x : Marks × List ℕ) → marks_at bytes ≡ Some x → length x.0.clients ≡ 8
unfolding marks_at
all_eight bytes x e =
    let c = bind_some (items_at mark_at 8 bytes) _ x e in
    let d = bind_some (number_at 8 c.0.1) _ x c.2 in
    let made : Marks × List ℕ = (record { clients = c.0.0; digests = d.0.0 }, d.0.1) in
    subst (λ (y : Marks × List ℕ). length y.0.clients ≡ 8) (some_is made x d.2) (as_many mark_at 8 bytes c.0 c.1)

pub eight_in : (block : List ℕ) (v : Marks) → marks_of block ≡ Some v → length v.clients ≡ 8
unfolding marks_of
eight_in block v is =
    let long = guard_some (length block == BLOCK) _ v is in
    let x = bind_some (marks_at block) _ v long.1 in
    let zeros = test_some (are_zero x.0.1) x.0.0 v x.2 in
    subst (λ (w : Marks). length w.clients ≡ 8) zeros.1 (all_eight block x.0 x.1)

-- a medium spells the marks of eight clients
pub eight_marks : (s : Store) (v : Marks) → marks s ≡ Some v → length v.clients ≡ 8
eight_marks s v is = eight_in (s tiers.Fast MARKS_BLOCK) v is

-- a client's mark moves, and no other
pub moved_mark : (v : Marks) (c : ℕ) (m : Mark) → is_client c ≡ true → length v.clients ≡ 8 → mark_by (Some (marks_after v c m)) c ≡ m
moved_mark v c m is eight =
    let from = is_low c is in
    let to = is_high c is in
    get_or-set_same v.clients (c - 1) m (record { generation = 0; done = 0 }) (omega (arith, from, to, eight))

pub other_mark : (v : Marks) (c d : ℕ) (m : Mark) → is_client c ≡ true → is_client d ≡ true → d ≢ c → mark_by (Some (marks_after v c m)) d ≡ mark_by (Some v) d
other_mark v c d m is_c is_d off =
    let own = is_low c is_c in
    let from = is_low d is_d in
    get_or-set_other v.clients (c - 1) (d - 1) m (record { generation = 0; done = 0 }) (λ same. off (omega (arith, same, own, from)))

-- the marks before one has moved are of eight clients too
pub eight_before : (v : Marks) (c : ℕ) (m : Mark) → length (marks_after v c m).clients ≡ 8 → length v.clients ≡ 8
eight_before v c m eight = sym (length-set v.clients (c - 1) m) ∙ eight
