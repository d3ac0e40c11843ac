-- A path that is walked to a directory or to a file, and a directory that has to be empty, asked in one step.
use Rattle.std.proofs.Common.{◌≡◌, ℕ, List, [], Bool, true, false, refl, Result, Option, Some, None, Ok, Err, ap, sym, ◌∙◌, subst, nat_lt}
use Rattle.std.specs.Prelude.{IfOk, IfErr}
use Rattle.std.specs.FinMap as fin
use Rattle.posix_calls.specs.declared.errno.Errno.{Errno}
use Rattle.posix_calls.specs.declared.errno.Errno.TheVariants.{NotEmpty}
use Rattle.posix_calls.specs.declared.operation.DecideError.{DecideError}
use Rattle.posix_calls.specs.declared.operation.DecideError.TheVariants.{Refused, Memory}
use Rattle.posix_calls.specs.declared.operation.DecideError.TheVariants as why
use Rattle.posix_calls.specs.declared.operation.Missing.{Missing}
use Rattle.posix_calls.specs.declared.walk.Target.{Target}
use Rattle.posix_calls.specs.declared.limits.TheConstants.{ROOT}
use Rattle.posix_calls.specs.Query.{Query, Gives, ◌>>=◌}
use Rattle.posix_calls.specs.Part.{Part, Found, Known, Unknown, run_part}
use Rattle.posix_calls.specs.Walk.{Place, prefix, refuse, there, kind_at, entries_at}
use Rattle.posix_calls.specs.Answers.{IsAnswer, last_name, other_kind, target, no_entries}
use Rattle.posix_calls.proofs.Chain.{then_found, part_bind, tells_err, tells_missing, tells_memory, tells_same, gives, refuses}
use Rattle.posix_calls.proofs.Walks.{value_or, found_after, named}

-- ---- what a stop leaves undone

stops_at : {A B C : Type 0} (x : Found A) (f : A → Found B) (g : A → Found C) (e : Errno) → then_found x f ≡ Known (Err e) → ((y : A) → f y ≡ Known (Err e) → g y ≡ Known (Err e)) → then_found x g ≡ Known (Err e)
stops_at (Known (Ok y)) f g e h after = after y h
stops_at (Known (Err d)) f g e h after = let same : d ≡ e = cc in ap (λ z. Known (Err z)) same
stops_at (Unknown what) f g e h after = absurd (cc)

misses_at : {A B C : Type 0} (x : Found A) (f : A → Found B) (g : A → Found C) (what : Missing) → then_found x f ≡ Unknown what → ((y : A) → f y ≡ Unknown what → g y ≡ Unknown what) → then_found x g ≡ Unknown what
misses_at (Known (Ok y)) f g what h after = after y h
misses_at (Known (Err d)) f g what h after = absurd (cc)
misses_at (Unknown other) f g what h after = let same : other ≡ what = cc in ap (λ z. Unknown z) same

no_stop : {A X : Type 0} {x : A} {e : Errno} → Known (Ok x) ≡ Known (Err e) → X
no_stop h = absurd (cc)

no_gap : {A X : Type 0} {x : A} {what : Missing} → Known (Ok x) ≡ Unknown what → X
no_gap h = absurd (cc)

-- ---- the walk to a node of the kind that is wanted

-- what it comes to, question by question, and what follows it
abbrev pub steps : {B : Type 0} → Part → Bool → Errno → List (List ℕ) → (Place → ℕ → Found B) → Found B
steps p wants e names after = then_found (run_part p (prefix names)) (λ place. then_found (run_part p (there place.inode)) (λ i. then_found (run_part p (kind_at place.inode)) (λ is_dir. then_found (run_part p (refuse e (other_kind wants is_dir))) (λ _. after place i))))

from_kind : {B : Type 0} (p : Part) (wants : Bool) (e : Errno) (o : Option ℕ) (q : Query B) → run_part p (kind_at o >>= (λ is_dir. refuse e (other_kind wants is_dir) >>= (λ _. q))) ≡ then_found (run_part p (kind_at o)) (λ is_dir. then_found (run_part p (refuse e (other_kind wants is_dir))) (λ _. run_part p q))
from_kind p wants e o q =
    part_bind p (kind_at o) (λ is_dir. refuse e (other_kind wants is_dir) >>= (λ _. q))
    ∙ (λ t. then_found (run_part p (kind_at o)) (λ is_dir. part_bind p (refuse e (other_kind wants is_dir)) (λ _. q) t))

from_there : {B : Type 0} (p : Part) (wants : Bool) (e : Errno) (o : Option ℕ) (rest : ℕ → Query B) → run_part p (there o >>= (λ i. kind_at o >>= (λ is_dir. refuse e (other_kind wants is_dir) >>= (λ _. rest i)))) ≡ then_found (run_part p (there o)) (λ i. then_found (run_part p (kind_at o)) (λ is_dir. then_found (run_part p (refuse e (other_kind wants is_dir))) (λ _. run_part p (rest i))))
from_there p wants e o rest =
    part_bind p (there o) (λ i. kind_at o >>= (λ is_dir. refuse e (other_kind wants is_dir) >>= (λ _. rest i)))
    ∙ (λ t. then_found (run_part p (there o)) (λ i. from_kind p wants e o (rest i) t))

by_steps : {B : Type 0} (p : Part) (wants : Bool) (e : Errno) (names : List (List ℕ)) (rest : Place → ℕ → Query B) → run_part p (prefix names >>= (λ place. there place.inode >>= (λ i. kind_at place.inode >>= (λ is_dir. refuse e (other_kind wants is_dir) >>= (λ _. rest place i))))) ≡ steps p wants e names (λ place i. run_part p (rest place i))
by_steps p wants e names rest =
    part_bind p (prefix names) (λ place. there place.inode >>= (λ i. kind_at place.inode >>= (λ is_dir. refuse e (other_kind wants is_dir) >>= (λ _. rest place i))))
    ∙ (λ t. then_found (run_part p (prefix names)) (λ place. from_there p wants e place.inode (λ i. rest place i) t))

by_target : (p : Part) (wants : Bool) (e : Errno) (names : List (List ℕ)) → run_part p (target wants e names) ≡ steps p wants e names (λ place i. Known (Ok (record { parent = place.location.parent; inode = i })))
unfolding run_part
by_target p wants e names = by_steps p wants e names (λ place i. Gives (record { parent = place.location.parent; inode = i }))

there_is : (p : Part) (o : Option ℕ) (i : ℕ) → run_part p (there o) ≡ Known (Ok i) → o ≡ Some i
unfolding run_part
there_is p None i e = absurd (cc)
there_is p (Some j) i e = let same : j ≡ i = cc in ap (λ z. Some z) same

-- what follows may use the target
pub bind_target : {B : Type 0} {p : Part} (wants : Bool) (e : Errno) (names : List (List ℕ)) {to : Target} (rest : Place → ℕ → Query B) {r : _} → IsAnswer p (target wants e names) (Ok to) → ((walked : List ℕ) (entries : ℕ) → IsAnswer p (rest (record { location = record { parent = to.parent; name = last_name names }; inode = Some to.inode; walked = walked; entries = entries }) to.inode) r) → IsAnswer p (prefix names >>= (λ place. there place.inode >>= (λ i. kind_at place.inode >>= (λ is_dir. refuse e (other_kind wants is_dir) >>= (λ _. rest place i))))) r
bind_target {p = p} wants e names {to = to} rest {r = r} h after =
    let all = sym (by_target p wants e names) ∙ h.gives to refl in
    let a = found_after (run_part p (prefix names)) (λ place. then_found (run_part p (there place.inode)) (λ i. then_found (run_part p (kind_at place.inode)) (λ is_dir. then_found (run_part p (refuse e (other_kind wants is_dir))) (λ _. Known (Ok (record { parent = place.location.parent; inode = i })))))) to all in
    let place : Place = a.0 in
    let b = found_after (run_part p (there place.inode)) (λ i. then_found (run_part p (kind_at place.inode)) (λ is_dir. then_found (run_part p (refuse e (other_kind wants is_dir))) (λ _. Known (Ok (record { parent = place.location.parent; inode = i }))))) to a.2 in
    let c = found_after (run_part p (kind_at place.inode)) (λ is_dir. then_found (run_part p (refuse e (other_kind wants is_dir))) (λ _. Known (Ok (record { parent = place.location.parent; inode = b.0 })))) to b.2 in
    let d = found_after (run_part p (refuse e (other_kind wants c.0))) (λ _. Known (Ok (record { parent = place.location.parent; inode = b.0 }))) to c.2 in
    let aimed : record { parent = place.location.parent; inode = b.0 } ≡ to = ap (value_or to) d.2 in
    let name : place.location.name ≡ last_name names = named p names ROOT [] place a.1 in
    let inode : place.inode ≡ Some b.0 = there_is p place.inode b.0 b.1 in
    let same : record { location = record { parent = place.location.parent; name = last_name names }; inode = Some b.0; walked = place.walked; entries = place.entries } ≡ place =
    ap (λ (n : List ℕ). record { location = record { parent = place.location.parent; name = n }; inode = Some b.0; walked = place.walked; entries = place.entries }) (sym name)
    ∙ ap (λ (o : Option ℕ). record { location = place.location; inode = o; walked = place.walked; entries = place.entries }) (sym inode) in
    let goes : steps p wants e names (λ place i. run_part p (rest place i)) ≡ run_part p (rest place b.0) =
    ap (λ z. then_found z (λ place. then_found (run_part p (there place.inode)) (λ i. then_found (run_part p (kind_at place.inode)) (λ is_dir. then_found (run_part p (refuse e (other_kind wants is_dir))) (λ _. run_part p (rest place i)))))) a.1
    ∙ ap (λ z. then_found z (λ i. then_found (run_part p (kind_at place.inode)) (λ is_dir. then_found (run_part p (refuse e (other_kind wants is_dir))) (λ _. run_part p (rest place i))))) b.1
    ∙ ap (λ z. then_found z (λ is_dir. then_found (run_part p (refuse e (other_kind wants is_dir))) (λ _. run_part p (rest place b.0)))) c.1
    ∙ ap (λ z. then_found z (λ _. run_part p (rest place b.0))) d.1 in
    let told = subst (λ (t : Target). IsAnswer p (rest (record { location = record { parent = t.parent; name = last_name names }; inode = Some t.inode; walked = place.walked; entries = place.entries }) t.inode) r) (sym aimed) (after place.walked place.entries) in
    tells_same (by_steps p wants e names rest ∙ goes) (subst (λ z. IsAnswer p (rest z b.0) r) same told)

-- an error on the way to the target is one of what follows it
stops_before : {B : Type 0} (x : Found Place) (y : Place → Found ℕ) (k : Place → Found Bool) (t : Bool → Found (Unit {0})) (aim : Place → ℕ → Target) (after : Place → ℕ → Found B) (d : Errno) → then_found x (λ place. then_found (y place) (λ i. then_found (k place) (λ is_dir. then_found (t is_dir) (λ _. Known (Ok (aim place i)))))) ≡ Known (Err d) → then_found x (λ place. then_found (y place) (λ i. then_found (k place) (λ is_dir. then_found (t is_dir) (λ _. after place i)))) ≡ Known (Err d)
stops_before x y k t aim after d h =
    stops_at x (λ place. then_found (y place) (λ i. then_found (k place) (λ is_dir. then_found (t is_dir) (λ _. Known (Ok (aim place i)))))) (λ place. then_found (y place) (λ i. then_found (k place) (λ is_dir. then_found (t is_dir) (λ _. after place i)))) d h (λ place in_there.
    stops_at (y place) (λ i. then_found (k place) (λ is_dir. then_found (t is_dir) (λ _. Known (Ok (aim place i))))) (λ i. then_found (k place) (λ is_dir. then_found (t is_dir) (λ _. after place i))) d in_there (λ i in_kind.
    stops_at (k place) (λ is_dir. then_found (t is_dir) (λ _. Known (Ok (aim place i)))) (λ is_dir. then_found (t is_dir) (λ _. after place i)) d in_kind (λ is_dir in_test.
    stops_at (t is_dir) (λ _. Known (Ok (aim place i))) (λ _. after place i) d in_test (λ u never. no_stop never))))

-- so is what is missing
misses_before : {B : Type 0} (x : Found Place) (y : Place → Found ℕ) (k : Place → Found Bool) (t : Bool → Found (Unit {0})) (aim : Place → ℕ → Target) (after : Place → ℕ → Found B) (d : Missing) → then_found x (λ place. then_found (y place) (λ i. then_found (k place) (λ is_dir. then_found (t is_dir) (λ _. Known (Ok (aim place i)))))) ≡ Unknown d → then_found x (λ place. then_found (y place) (λ i. then_found (k place) (λ is_dir. then_found (t is_dir) (λ _. after place i)))) ≡ Unknown d
misses_before x y k t aim after d h =
    misses_at x (λ place. then_found (y place) (λ i. then_found (k place) (λ is_dir. then_found (t is_dir) (λ _. Known (Ok (aim place i)))))) (λ place. then_found (y place) (λ i. then_found (k place) (λ is_dir. then_found (t is_dir) (λ _. after place i)))) d h (λ place in_there.
    misses_at (y place) (λ i. then_found (k place) (λ is_dir. then_found (t is_dir) (λ _. Known (Ok (aim place i))))) (λ i. then_found (k place) (λ is_dir. then_found (t is_dir) (λ _. after place i))) d in_there (λ i in_kind.
    misses_at (k place) (λ is_dir. then_found (t is_dir) (λ _. Known (Ok (aim place i)))) (λ is_dir. then_found (t is_dir) (λ _. after place i)) d in_kind (λ is_dir in_test.
    misses_at (t is_dir) (λ _. Known (Ok (aim place i))) (λ _. after place i) d in_test (λ u never. no_gap never))))

-- where the walk stops, or leads to the other kind, nothing follows
pub bind_target_stops : {B : Type 0} {p : Part} (wants : Bool) (e : Errno) (names : List (List ℕ)) (rest : Place → ℕ → Query B) {s : DecideError} → IsAnswer p (target wants e names) (Err s) → IsAnswer p (prefix names >>= (λ place. there place.inode >>= (λ i. kind_at place.inode >>= (λ is_dir. refuse e (other_kind wants is_dir) >>= (λ _. rest place i))))) (Err s)
bind_target_stops {p = p} wants e names rest {s = Refused d} h = tells_err (by_steps p wants e names rest ∙ stops_before (run_part p (prefix names)) (λ place. run_part p (there place.inode)) (λ place. run_part p (kind_at place.inode)) (λ is_dir. run_part p (refuse e (other_kind wants is_dir))) (λ place i. record { parent = place.location.parent; inode = i }) (λ place i. run_part p (rest place i)) d (sym (by_target p wants e names) ∙ h.refuses d refl))
bind_target_stops {p = p} wants e names rest {s = why.Missing d} h = tells_missing (by_steps p wants e names rest ∙ misses_before (run_part p (prefix names)) (λ place. run_part p (there place.inode)) (λ place. run_part p (kind_at place.inode)) (λ is_dir. run_part p (refuse e (other_kind wants is_dir))) (λ place i. record { parent = place.location.parent; inode = i }) (λ place i. run_part p (rest place i)) d (sym (by_target p wants e names) ∙ h.missing d refl))
bind_target_stops {p = p} wants e names rest {s = Memory} h = tells_memory p _

-- ---- a directory that has to be empty

pub empty_first : {B : Type 0} (i : ℕ) (rest : Unit {0} → Query B) → (entries_at i >>= (λ entries. refuse NotEmpty (nat_lt 0 (fin.len entries)) >>= rest)) ≡ (no_entries i >>= rest)
unfolding ◌>>=◌
empty_first i rest = refl

-- what the test alone tells
pub refused_told : {p : Part} (e : Errno) {a b : Bool} → a ≡ b → (r : Result (Unit {0}) DecideError) → IfOk r (λ _. b ≡ false) → IfErr r (λ d. (d ≡ Refused e) × (b ≡ true)) → IsAnswer p (refuse e a) r
refused_told {p = p} e is (Ok x) clear refused = subst (λ z. IsAnswer p (refuse e z) (Ok x)) (sym (is ∙ clear)) gives
refused_told {p = p} e is (Err d) clear refused = subst (λ z. IsAnswer p (refuse e z) (Err d)) (sym (is ∙ refused.1)) (subst (λ z. IsAnswer {A = Unit {0}} p (refuse e true) (Err z)) (sym refused.0) refuses)
