-- The walk of a call: where it leads, and how it is made step by step.
use Rattle.std.proofs.Common.{◌≡◌, ℕ, List, [], ◌∷◌, ◌++◌, ◌||◌, Bool, true, false, refl, Option, Some, None, Result, Ok, Err, ap, sym, ◌∙◌, subst, ◌+◌, ◌-◌, ◌<◌, ◌≤◌, length, take, drop, get_or, arith, add-one, drop-cons, suc}
use Rattle.std.proofs.lemmas.List.{take_more, take_all, drop_all}
use Rattle.std.specs.Prelude.{option_map}
use Rattle.std.specs.Result.{IsErrAnd}
use Rattle.std.proofs.lemmas.Result.{err_from_is_err_and}
use Rattle.std.specs.List.{list_any}
use Rattle.posix_calls.specs.declared.errno.Errno.{Errno}
use Rattle.posix_calls.specs.declared.operation.DecideError.{DecideError}
use Rattle.posix_calls.specs.declared.operation.DecideError.TheVariants.{Refused, Memory}
use Rattle.posix_calls.specs.declared.operation.DecideError.TheVariants as why
use Rattle.posix_calls.specs.declared.operation.Missing.{Missing}
use Rattle.posix_calls.specs.declared.operation.Missing.TheVariants as missing
use Rattle.posix_calls.specs.declared.walk.Landing.{Landing}
use Rattle.posix_calls.specs.declared.limits.TheConstants.{ROOT}
use Rattle.posix_calls.specs.Query.{Seen, Query, Gives, Look, ◌>>=◌, run, view_of, seen_node, dir_test}
use Rattle.posix_calls.specs.Part.{Part, Found, Known, Unknown, run_part}
use Rattle.posix_calls.specs.Walk.{Place, root_place, walk, prefix, directory, directory_if, entries_seen, leads_to, there, kind_at}
use Rattle.posix_calls.specs.Resolve.{walk_inode, entry_or, child, then_from, resolve_from}
use Rattle.posix_calls.specs.Answers.{IsAnswer, entry_in, count_in, last_name, landing_of, landing, without_kind, place_at, child_at}
use Rattle.posix_calls.proofs.Chain.{then_found, part_bind, part_gives, tells_ok, tells_err, tells_missing, tells_memory, tells_same, bind_stops, gives, look_missing}
use Rattle.std.specs.FinMap as fin
use Rattle.posix_calls.specs.Content.{Entries}
use Rattle.posix_calls.specs.Tree.{Tree, Node, File, Dir, names_of}

-- ---- the walk leads where the path does

there_is : (t : Tree) (o : Option ℕ) → run (view_of t) (there o) ≡ then_from (resolve_from t []) (entry_or o)
unfolding run resolve_from
there_is t None = refl
there_is t (Some i) = refl

-- from a directory on, the walk through what stands at an inode goes as the path does
through : (t : Tree) (next : List ℕ) (names : List (List ℕ)) (way : List ℕ)
    → ((c : ℕ) (es : Entries ℕ) → t c ≡ Some (Dir es) → run (view_of t) (walk c way (next ∷ names) >>= walk_inode) ≡ resolve_from t (next ∷ names) c)
    → (i : ℕ) (x : Option Node) → t i ≡ x → run (view_of t) (directory_if i (option_map dir_test x) >>= (λ c. walk c way (next ∷ names)) >>= walk_inode) ≡ then_from (resolve_from t names) (child x next)
unfolding run ◌>>=◌ resolve_from
through t next names way ih i None is = refl
through t next names way ih i (Some (File bytes)) is = refl
through t next names way ih i (Some (Dir es)) is = ih i es is ∙ ap (λ x. then_from (resolve_from t names) (child x next)) is

-- so it goes through an entry, if there is one
by_entry : (t : Tree) (next : List ℕ) (names : List (List ℕ)) (way : List ℕ)
    → ((c : ℕ) (es : Entries ℕ) → t c ≡ Some (Dir es) → run (view_of t) (walk c way (next ∷ names) >>= walk_inode) ≡ resolve_from t (next ∷ names) c)
    → (o : Option ℕ) → run (view_of t) (directory o >>= (λ c. walk c way (next ∷ names)) >>= walk_inode) ≡ then_from (resolve_from t (next ∷ names)) (entry_or o)
unfolding run ◌>>=◌ resolve_from
by_entry t next names way ih None = refl
by_entry t next names way ih (Some i) = through t next names way ih i (t i) refl

-- the walk from a directory along some names
pub walk_resolves : (t : Tree) (name : List ℕ) (names : List (List ℕ)) (way : List ℕ) (dir : ℕ) (es : Entries ℕ) → t dir ≡ Some (Dir es) → run (view_of t) (walk dir way (name ∷ names) >>= walk_inode) ≡ resolve_from t (name ∷ names) dir
unfolding run ◌>>=◌ walk resolve_from
walk_resolves t name [] way dir es is =
    ap (λ x. run (view_of t) (there (fin.get (entries_seen (option_map (seen_node (names_of t dir)) x)) name))) is
    ∙ there_is t (fin.get es name)
    ∙ ap (λ x. then_from (resolve_from t []) (child x name)) (sym is)
walk_resolves t name (next ∷ names) way dir es is =
    ap (λ x. run (view_of t) (directory (fin.get (entries_seen (option_map (seen_node (names_of t dir)) x)) name) >>= (λ c. walk c (dir ∷ way) (next ∷ names)) >>= walk_inode)) is
    ∙ by_entry t next names (dir ∷ way) (λ c cs at. walk_resolves t next names (dir ∷ way) c cs at) (fin.get es name)
    ∙ ap (λ x. then_from (resolve_from t (next ∷ names)) (child x name)) (sym is)

-- the walk from the root
pub prefix_resolves : (t : Tree) (names : List (List ℕ)) (es : Entries ℕ) → t ROOT ≡ Some (Dir es) → run (view_of t) (walk ROOT [] names >>= walk_inode) ≡ resolve_from t names ROOT
unfolding run ◌>>=◌ walk resolve_from
prefix_resolves t [] es is = refl
prefix_resolves t (name ∷ names) es is = walk_resolves t name names [] ROOT es is

-- ---- how questions are grouped

then_assoc : {A B C : Type 0} (p : Part) (found : Found A) (w : A → Query B) (f : B → Query C) → then_found (then_found found (λ x. run_part p (w x))) (λ y. run_part p (f y)) ≡ then_found found (λ x. run_part p (w x >>= f))
then_assoc p (Known (Ok x)) w f = sym (part_bind p (w x) f)
then_assoc p (Known (Err e)) w f = refl
then_assoc p (Unknown what) w f = refl

-- how questions are grouped does not matter
pub part_assoc : {A B C : Type 0} (p : Part) (q : Query A) (w : A → Query B) (f : B → Query C) → run_part p (q >>= w >>= f) ≡ run_part p (q >>= (λ x. w x >>= f))
part_assoc p q w f =
    part_bind p (q >>= w) f
    ∙ ap (λ z. then_found z (λ y. run_part p (f y))) (part_bind p q w)
    ∙ then_assoc p (run_part p q) w f
    ∙ sym (part_bind p q (λ x. w x >>= f))

-- ---- step by step

-- a walk has come to a directory, with these names to go
pub record Walked (p : Part) (watched : Option ℕ) (names : List (List ℕ)) (dir : ℕ) (passed : Bool) (rest : List (List ℕ)) : Type 0 where
  pub way : List ℕ
  pub same : run_part p (landing watched names) ≡ run_part p (walk dir way rest >>= (λ place. Gives (landing_of watched place)))
  pub seen : list_any (λ d. leads_to d watched) way ≡ passed

or_swap : (a b : Bool) → (a || b) ≡ (b || a)
or_swap true true = refl
or_swap true false = refl
or_swap false true = refl
or_swap false false = refl

-- it begins at the root
pub walked_first : (p : Part) (watched : Option ℕ) (names rest : List (List ℕ)) → names ≡ rest → Walked p watched names ROOT false rest
walked_first p watched names rest is = record { way = []; same = ap (λ z. run_part p (landing watched z)) is; seen = refl }

-- a step of it
step_is : (dir : ℕ) (way : List ℕ) (name next : List ℕ) (names : List (List ℕ)) → walk dir way (name ∷ next ∷ names) ≡ (child_at dir name >>= (λ child. walk child (dir ∷ way) (next ∷ names)))
unfolding walk ◌>>=◌
step_is dir way name next names = refl

-- names of which one is the last
step_on : (dir : ℕ) (way : List ℕ) (name : List ℕ) (before : List (List ℕ)) (last : List ℕ) → walk dir way (name ∷ (before ++ last ∷ [])) ≡ (child_at dir name >>= (λ child. walk child (dir ∷ way) (before ++ last ∷ [])))
step_on dir way name [] last = step_is dir way name last []
step_on dir way name (b ∷ before) last = step_is dir way name b (before ++ last ∷ [])

same_step : {p : Part} {watched : Option ℕ} {names : List (List ℕ)} {dir : ℕ} {passed : Bool} {name : List ℕ} (before : List (List ℕ)) (last : List ℕ) (w : Walked p watched names dir passed (name ∷ (before ++ last ∷ []))) → run_part p (landing watched names) ≡ run_part p (child_at dir name >>= (λ child. walk child (dir ∷ w.way) (before ++ last ∷ []) >>= (λ place. Gives (landing_of watched place))))
same_step {p = p} {watched = watched} {dir = dir} {name = name} before last w =
    w.same
    ∙ ap (λ z. run_part p (z >>= (λ place. Gives (landing_of watched place)))) (step_on dir w.way name before last)
    ∙ part_assoc p (child_at dir name) (λ child. walk child (dir ∷ w.way) (before ++ last ∷ [])) (λ place. Gives (landing_of watched place))

-- where a step ends the walk, that is told
pub walked_stops : {p : Part} {watched : Option ℕ} {names : List (List ℕ)} {dir : ℕ} {passed : Bool} {name : List ℕ} (before : List (List ℕ)) (last : List ℕ) {s : DecideError} → Walked p watched names dir passed (name ∷ (before ++ last ∷ [])) → IsAnswer p (child_at dir name) (Err s) → IsAnswer p (landing watched names) (Err s)
walked_stops before last w h = tells_same (same_step before last w) (bind_stops _ h)

-- otherwise it goes on
pub walked_on : {p : Part} {watched : Option ℕ} {names : List (List ℕ)} {dir : ℕ} {passed : Bool} {name : List ℕ} (before : List (List ℕ)) (last : List ℕ) {child : ℕ} → Walked p watched names dir passed (name ∷ (before ++ last ∷ [])) → IsAnswer p (child_at dir name) (Ok child) → Walked p watched names child (passed || leads_to dir watched) (before ++ last ∷ [])
walked_on {p = p} {watched = watched} {dir = dir} {passed = passed} {name = name} before last w h = record {
  way = dir ∷ w.way;
  same = same_step before last w ∙ part_bind p (child_at dir name) (λ child. walk child (dir ∷ w.way) (before ++ last ∷ []) >>= (λ place. Gives (landing_of watched place))) ∙ ap (λ z. then_found z (λ child. run_part p (walk child (dir ∷ w.way) (before ++ last ∷ []) >>= (λ place. Gives (landing_of watched place))))) (h.gives _ refl);
  seen = ap (λ z. leads_to dir watched || z) w.seen ∙ or_swap (leads_to dir watched) passed;
}

-- at its end
last_is : (p : Part) (watched : Option ℕ) (dir : ℕ) (way : List ℕ) (name : List ℕ) → run_part p (walk dir way (name ∷ []) >>= (λ place. Gives (landing_of watched place))) ≡ run_part {A = Landing} p (Look dir (λ s. Gives (record { parent = dir; inode = entry_in name s; entries = count_in s; passed = leads_to dir watched || list_any (λ d. leads_to d watched) way; is_dir = None })))
unfolding walk ◌>>=◌
last_is p watched dir way name = refl

-- what is not known of the last directory is missing
pub walked_missing : {C : Type 0} {p : Part} {watched : Option ℕ} {names : List (List ℕ)} {dir : ℕ} {passed : Bool} {last : List ℕ} {s : DecideError} (g : Option Seen → C) → Walked p watched names dir passed (last ∷ []) → s ≡ why.Missing (missing.Node dir) → option_map g (p.node dir) ≡ None → IsAnswer p (landing watched names) (Err s)
walked_missing {p = p} {watched = watched} {dir = dir} {last = last} g w lack is = tells_same (w.same ∙ last_is p watched dir w.way last) (look_missing g _ lack is)

-- what is known is where the walk leads
lands : (p : Part) (dir : ℕ) (name : List ℕ) (passed : Bool) (o : Option ℕ) (n : ℕ) (s : Option (Option Seen)) → option_map (entry_in name) s ≡ Some o → option_map count_in s ≡ Some n → ◌≡◌ {A = Found Landing} (elim s [ None ↦ Unknown (missing.Node dir) | Some a ↦ run_part {A = Landing} p (Gives (record { parent = dir; inode = entry_in name a; entries = count_in a; passed = passed; is_dir = None })) ]) (Known (Ok (record { parent = dir; inode = o; entries = n; passed = passed; is_dir = None })))
lands p dir name passed o n None e h = absurd (cc)
lands p dir name passed o n (Some a) e h =
    let at : entry_in name a ≡ o = cc in
    let many : count_in a ≡ n = cc in
    part_gives {A = Landing} p (record { parent = dir; inode = entry_in name a; entries = count_in a; passed = passed; is_dir = None })
    ∙ ap (λ (z : Option ℕ). Known (Ok (record { parent = dir; inode = z; entries = count_in a; passed = passed; is_dir = None }))) at
    ∙ ap (λ z. Known (Ok (record { parent = dir; inode = o; entries = z; passed = passed; is_dir = None }))) many

look_lands : (p : Part) (dir : ℕ) (name : List ℕ) (passed : Bool) (o : Option ℕ) (n : ℕ) → option_map (entry_in name) (p.node dir) ≡ Some o → option_map count_in (p.node dir) ≡ Some n → run_part {A = Landing} p (Look dir (λ s. Gives (record { parent = dir; inode = entry_in name s; entries = count_in s; passed = passed; is_dir = None }))) ≡ Known (Ok (record { parent = dir; inode = o; entries = n; passed = passed; is_dir = None }))
unfolding run_part
look_lands p dir name passed o n e h = lands p dir name passed o n (p.node dir) e h

pub walked_lands : {p : Part} {watched : Option ℕ} {names : List (List ℕ)} {dir : ℕ} {passed : Bool} {last : List ℕ} {o : Option ℕ} {n : ℕ} → Walked p watched names dir passed (last ∷ []) → option_map (entry_in last) (p.node dir) ≡ Some o → option_map count_in (p.node dir) ≡ Some n → IsAnswer p (landing watched names) (Ok (record { parent = dir; inode = o; entries = n; passed = passed || leads_to dir watched; is_dir = None }))
walked_lands {p = p} {watched = watched} {dir = dir} {passed = passed} {last = last} {o = o} {n = n} w e h =
    tells_ok (w.same ∙ last_is p watched dir w.way last ∙ look_lands p dir last (leads_to dir watched || list_any (λ d. leads_to d watched) w.way) o n e h ∙ ap (λ z. Known (Ok (record { parent = dir; inode = o; entries = n; passed = leads_to dir watched || z; is_dir = None }))) w.seen ∙ ap (λ z. Known (Ok (record { parent = dir; inode = o; entries = n; passed = z; is_dir = None }))) (or_swap (leads_to dir watched) passed))

-- `/` leads to the root
pub lands_at_root : (p : Part) (watched : Option ℕ) (names : List (List ℕ)) → length names < 1 → IsAnswer p (landing watched names) (Ok (record { parent = 0; inode = Some ROOT; entries = 0; passed = false; is_dir = None }))
unfolding walk ◌>>=◌
lands_at_root p watched [] short = gives
lands_at_root p watched (name ∷ names) short = absurd (omega arith)

-- ---- the names of a path

-- all but the last, and the last
pub split_last : (xs : List (List ℕ)) (x : List ℕ) → 1 ≤ length xs → x ≡ get_or xs (length xs - 1) x → xs ≡ take (length xs - 1) xs ++ x ∷ []
split_last xs x some is =
    let whole : xs ≡ take (length xs - 1 + 1) xs = sym (take_all (length xs - 1 + 1) xs (omega arith)) in
    let more : take (length xs - 1 + 1) xs ≡ take (length xs - 1) xs ++ get_or xs (length xs - 1) x ∷ [] = take_more xs (length xs - 1) x (omega arith) in
    whole ∙ more ∙ ap (λ z. take (length xs - 1) xs ++ z ∷ []) (sym is)

last_of : (front : List (List ℕ)) (x : List ℕ) → last_name (front ++ x ∷ []) ≡ x
last_of [] x = refl
last_of (a ∷ []) x = refl
last_of (a ∷ b ∷ front) x = last_of (b ∷ front) x

-- the last name is the last of the list
pub last_name_is : (xs : List (List ℕ)) (x : List ℕ) → 1 ≤ length xs → x ≡ get_or xs (length xs - 1) x → last_name xs ≡ x
last_name_is xs x some is = ap last_name (split_last xs x some is) ∙ last_of (take (length xs - 1) xs) x

-- one name after another
pub drop_next : (before : List (List ℕ)) (k : ℕ) (name : List ℕ) (tail : List (List ℕ)) → k < length before → name ≡ get_or before k name → (drop k before ++ tail) ≡ (name ∷ (drop (k + 1) before ++ tail))
drop_next before k name tail below is = rw (add-one, drop-cons before k name below) (ap (λ z. z ∷ (drop (suc k) before ++ tail)) (sym is))

-- until there is none
pub drop_done : (before : List (List ℕ)) (k : ℕ) (tail : List (List ℕ)) → length before ≤ k → (drop k before ++ tail) ≡ tail
drop_done before k tail done = ap (λ z. z ++ tail) (drop_all k before done)

-- the next name of a walk
pub walked_next : {p : Part} {watched : Option ℕ} {names : List (List ℕ)} {dir : ℕ} {passed : Bool} (before : List (List ℕ)) (k : ℕ) (name last : List ℕ) → k < length before → name ≡ get_or before k name → Walked p watched names dir passed (drop k before ++ last ∷ []) → Walked p watched names dir passed (name ∷ (drop (k + 1) before ++ last ∷ []))
walked_next {p = p} {watched = watched} {names = names} {dir = dir} {passed = passed} before k name last below is w = subst (λ z. Walked p watched names dir passed z) (drop_next before k name (last ∷ []) below is) w

-- its last name
pub walked_last : {p : Part} {watched : Option ℕ} {names : List (List ℕ)} {dir : ℕ} {passed : Bool} (before : List (List ℕ)) (k : ℕ) (last : List ℕ) → length before ≤ k → Walked p watched names dir passed (drop k before ++ last ∷ []) → Walked p watched names dir passed (last ∷ [])
walked_last {p = p} {watched = watched} {names = names} {dir = dir} {passed = passed} before k last done w = subst (λ z. Walked p watched names dir passed z) (drop_done before k (last ∷ []) done) w

-- ---- places

-- the value that was found
abbrev pub value_or : {A : Type 0} → A → Found A → A
value_or d (Known (Ok x)) = x
value_or d (Known (Err e)) = d
value_or d (Unknown what) = d

-- what was found after another was found after its value
pub found_after : {A B : Type 0} (found : Found A) (k : A → Found B) (y : B) → then_found found k ≡ Known (Ok y) → (x : A) × (found ≡ Known (Ok x)) × (k x ≡ Known (Ok y))
found_after (Known (Ok x)) k y e = (x, refl, e)
found_after (Known (Err d)) k y e = absurd (cc)
found_after (Unknown what) k y e = absurd (cc)

named_here : (p : Part) (dir : ℕ) (way : List ℕ) (name : List ℕ) (place : Place) (s : Option (Option Seen)) → elim s [ None ↦ Unknown (missing.Node dir) | Some a ↦ run_part {A = Place} p (Gives (record { location = record { parent = dir; name = name }; inode = entry_in name a; walked = dir ∷ way; entries = count_in a })) ] ≡ Known (Ok place) → place.location.name ≡ name
unfolding run_part
named_here p dir way name place None e = absurd (cc)
named_here p dir way name place (Some a) e = sym (ap (λ z. (value_or root_place z).location.name) e)

-- a walk leads to a place of the last name
pub named : (p : Part) (names : List (List ℕ)) (dir : ℕ) (way : List ℕ) (place : Place) → run_part p (walk dir way names) ≡ Known (Ok place) → place.location.name ≡ last_name names
unfolding run_part walk ◌>>=◌
named p [] dir way place e = sym (ap (λ z. (value_or root_place z).location.name) e)
named p (name ∷ []) dir way place e = named_here p dir way name place (p.node dir) e
named p (name ∷ next ∷ names) dir way place e =
    let after = found_after (run_part p (child_at dir name)) (λ c. run_part p (walk c (dir ∷ way) (next ∷ names))) place (sym (part_bind p (child_at dir name) (λ c. walk c (dir ∷ way) (next ∷ names))) ∙ e) in
    named p (next ∷ names) after.0 (dir ∷ way) place after.2

-- what follows a walk may use what is kept of its place, and that this was found
pub bind_known : {B : Type 0} {p : Part} (watched : Option ℕ) (names : List (List ℕ)) {to : Landing} (f : Place → Query B) {r : Result B DecideError} → IsAnswer p (landing watched names) (Ok to) → ((walked : List ℕ) → list_any (λ d. leads_to d watched) walked ≡ to.passed → run_part p (prefix names) ≡ Known (Ok (place_at names to walked)) → IsAnswer p (f (place_at names to walked)) r) → IsAnswer p (prefix names >>= f) r
bind_known {p = p} watched names {to = to} f {r = r} h rest =
    let after = found_after (run_part p (prefix names)) (λ place. run_part p (Gives (landing_of watched place))) to (sym (part_bind p (prefix names) (λ place. Gives (landing_of watched place))) ∙ h.gives to refl) in
    let place : Place = after.0 in
    let land : landing_of watched place ≡ to = ap (value_or to) (sym (part_gives p (landing_of watched place)) ∙ after.2) in
    let name : place.location.name ≡ last_name names = named p names ROOT [] place after.1 in
    let same : place_at names to place.walked ≡ place =
    ap (λ t. place_at names t place.walked) (sym land)
    ∙ ap (λ (n : List ℕ). record { location = record { parent = place.location.parent; name = n }; inode = place.inode; walked = place.walked; entries = place.entries }) (sym name) in
    tells_same (part_bind p (prefix names) f ∙ ap (λ z. then_found z (λ x. run_part p (f x))) after.1) (subst (λ z. IsAnswer p (f z) r) same (rest place.walked (ap (λ t. t.passed) land) (after.1 ∙ ap (λ z. Known (Ok z)) (sym same))))

pub bind_place : {B : Type 0} {p : Part} (watched : Option ℕ) (names : List (List ℕ)) {to : Landing} (f : Place → Query B) {r : Result B DecideError} → IsAnswer p (landing watched names) (Ok to) → ((walked : List ℕ) → list_any (λ d. leads_to d watched) walked ≡ to.passed → IsAnswer p (f (place_at names to walked)) r) → IsAnswer p (prefix names >>= f) r
bind_place watched names f h rest = bind_known watched names f h (λ walked seen found. rest walked seen)

-- a path that is walked again leads where it did
pub walked_again : {B : Type 0} {p : Part} (names : List (List ℕ)) {place : Place} (f : Place → Query B) {r : Result B DecideError} → run_part p (prefix names) ≡ Known (Ok place) → IsAnswer p (prefix names >>= f) r → IsAnswer p (f place) r
walked_again {p = p} names f found h = tells_same (sym (part_bind p (prefix names) f ∙ ap (λ z. then_found z (λ x. run_part p (f x))) found)) h

err_before : {A B : Type 0} (p : Part) (found : Found A) (g : A → B) (e : Errno) → then_found found (λ x. run_part p (Gives (g x))) ≡ Known (Err e) → found ≡ Known (Err e)
err_before p (Known (Ok x)) g e h = absurd (let clash : Known (Ok (g x)) ≡ Known (Err e) = sym (part_gives p (g x)) ∙ h in cc)
err_before p (Known (Err d)) g e h = let same : d ≡ e = cc in ap (λ z. Known (Err z)) same
err_before p (Unknown what) g e h = absurd (cc)

missing_before : {A B : Type 0} (p : Part) (found : Found A) (g : A → B) (what : Missing) → then_found found (λ x. run_part p (Gives (g x))) ≡ Unknown what → found ≡ Unknown what
missing_before p (Known (Ok x)) g what h = absurd (let clash : Known (Ok (g x)) ≡ Unknown what = sym (part_gives p (g x)) ∙ h in cc)
missing_before p (Known (Err d)) g what h = absurd (cc)
missing_before p (Unknown other) g what h = let same : other ≡ what = cc in ap (λ z. Unknown z) same

-- where the walk stops, nothing follows
pub bind_place_stops : {B : Type 0} {p : Part} (watched : Option ℕ) (names : List (List ℕ)) (f : Place → Query B) {s : DecideError} → IsAnswer p (landing watched names) (Err s) → IsAnswer p (prefix names >>= f) (Err s)
bind_place_stops {p = p} watched names f {s = Refused e} h =
    bind_stops f (tells_err (err_before p (run_part p (prefix names)) (landing_of watched) e (sym (part_bind p (prefix names) (λ place. Gives (landing_of watched place))) ∙ h.refuses e refl)))
bind_place_stops {p = p} watched names f {s = why.Missing what} h =
    bind_stops f (tells_missing (missing_before p (run_part p (prefix names)) (landing_of watched) what (sym (part_bind p (prefix names) (λ place. Gives (landing_of watched place))) ∙ h.missing what refl)))
bind_place_stops {p = p} watched names f {s = Memory} h = tells_memory p (prefix names >>= f)

-- an error of a walk, which tells nothing beside
pub exits_untold : {p : Part} {q : Query Landing} (r : Result Landing DecideError) {s : DecideError} → IsErrAnd r (λ t. t ≡ s) → IsAnswer p q (Err s) → IsAnswer p q (without_kind r)
exits_untold {p = p} {q = q} r is h = let e = err_from_is_err_and r is in subst (λ z. IsAnswer p q (without_kind z)) (sym (e.1 ∙ ap (λ z. Err z) e.2)) h

-- whether there is a directory, where what is there is known
pub kind_there : {p : Part} {o : Option ℕ} {i : ℕ} {r : Result Bool DecideError} → o ≡ Some i → IsAnswer p (kind_at o) r → IsAnswer p (kind_at (Some i)) r
kind_there {p = p} {r = r} is h = subst (λ z. IsAnswer p (kind_at z) r) is h
