-- A change takes no more images of a batch than its effects weigh.
use Rattle.std.proofs.Common.{◌≡◌, ℕ, ◌+◌, ◌*◌, ◌≤◌, cond, true, List, [], ◌∷◌, length, Option, Some, None, refl, ap, sym, ◌∙◌, subst, arith}
use Rattle.std.specs.Prelude.{unwrap_or}
use Rattle.std.specs.declared.cmp.Ordering.{Ordering}
use Rattle.std.specs.declared.cmp.Ordering.TheVariants.{Less, Equal, Greater}
use Rattle.std.specs.Ordering.{nat_cmp, is_eq, is_lt}
use Rattle.std.specs.Cmp.{nat_cmp_total}
use Rattle.std.specs.Cmp.Lexicographic.{slice_cmp, nat_list_cmp_total}
use Rattle.std.specs.FinMap as fin
use Rattle.std.specs.FinMap.Entries.{below_all, by_order, find, is_sorted, put}
use Rattle.std.specs.List.{sum_by}
use Rattle.std.proofs.lemmas.Bool.{false≢true, and_from}
use Rattle.std.proofs.lemmas.List.Sums.{sum_by-cons}
use Rattle.graph_change.specs.file_graph.declared.effect.Effect.{Effect}
use Rattle.graph_change.specs.file_graph.declared.effect.Effect.TheVariants as effect
use Rattle.posix_calls.proofs.Directory.{entries-empty}
use Rattle.graph_change.specs.file_graph.Graph.{Graph, after_effects, child_at, swap_places, entered_if, entered_places}
use Rattle.graph_change.specs.Net.{Base, Kept, Made, Gone, Child, EntryChanges}
use Rattle.graph_change.specs.Change.{Change, Changes, subject, new_change, change_after, change_at, with_effect, with_effects, coalesced_changes}
use Rattle.graph_change.specs.Swaps.{kept_names, swapped_sum, told_change}
use Rattle.coalescer.specs.Weight.{entry_weight, images}
use Rattle.coalescer.specs.Within.{entry_images, images_in, images_of}
use Rattle.coalescer.proofs.Counts.{and_true}
use Rattle.coalescer.proofs.Within.{holds, less_is_apart}
use Rattle.coalescer.proofs.Told.{AreSwapped, none_swapped, kept_swapped, with_places, inodes_told}

-- ---- keys that rise

is_less : (r : Ordering) → is_lt r ≡ true → r ≡ Less
is_less Less h = refl
is_less Equal h = absurd (false≢true h)
is_less Greater h = absurd (false≢true h)

-- a key below all is not found
not_there : (q : ℕ) (es : List (ℕ × Change)) → below_all nat_cmp q es ≡ true → find nat_cmp q es ≡ None
not_there q [] h = refl
not_there q (e ∷ es) h =
    let both = and_true (is_lt (nat_cmp q e.0)) (below_all nat_cmp q es) h in
    ap (λ t. cond t (Some e.1) (find nat_cmp q es)) (less_is_apart (nat_cmp q e.0) both.0) ∙ not_there q es both.1

below_less : (x y : ℕ) (es : List (ℕ × Change)) → nat_cmp x y ≡ Less → below_all nat_cmp y es ≡ true → below_all nat_cmp x es ≡ true
below_less x y [] less h = refl
below_less x y (e ∷ es) less h =
    let both = and_true (is_lt (nat_cmp y e.0)) (below_all nat_cmp y es) h in
    let first = nat_cmp_total.trans x y e.0 less (is_less (nat_cmp y e.0) both.0) in
    and_from (is_lt (nat_cmp x e.0)) (below_all nat_cmp x es) (ap is_lt first) (below_less x y es less both.1)

-- ---- one directory

abbrev weigh : List ℕ × Option Child → ℕ
weigh e = entry_images e.1

-- a name put in adds what it takes at most
put_name : (name : List ℕ) (what : Option Child) (es : List (List ℕ × Option Child)) → sum_by weigh (put (slice_cmp nat_cmp) name what es) ≤ sum_by weigh es + entry_images what
put_name name what [] = let one = sum_by-cons weigh (name, what) [] in omega (arith, one)
put_name name what (e ∷ es) =
    let was = sum_by-cons weigh e es in
    elim (slice_cmp nat_cmp name e.0) as (λ r. sum_by weigh (by_order r ((name, what) ∷ e ∷ es) ((e.0, what) ∷ es) (e ∷ put (slice_cmp nat_cmp) name what es)) ≤ sum_by weigh (e ∷ es) + entry_images what) [
      | Less ↦ (let one = sum_by-cons weigh (name, what) (e ∷ es) in omega (arith, one))
      | Equal ↦ (let one = sum_by-cons weigh (e.0, what) es in omega (arith, one, was))
      | Greater ↦ (let one = sum_by-cons weigh e (put (slice_cmp nat_cmp) name what es) in let rest = put_name name what es in omega (arith, one, was, rest))
    ]

named : (name : List ℕ) (what : Option Child) (m : EntryChanges) → images_in (fin.insert m name what) ≤ images_in m + entry_images what
named name what m = subst (λ es. sum_by weigh es ≤ images_in m + entry_images what) (sym (fin.entries-insert nat_list_cmp_total m name what)) (put_name name what (fin.entries m))

none_new : (base : Base) → images_in (new_change base).entries ≡ 0
none_new base = ap (sum_by weigh) (entries-empty (Option Child))

-- ---- the entries of many

-- what the entries in the change of one inode take, none where nothing is said of it
abbrev entries_at : Option Change → ℕ
entries_at o = images_in (unwrap_or o (new_change Kept)).entries

abbrev all_entries : List (ℕ × Change) → ℕ
all_entries [] = 0
all_entries (e ∷ es) = images_in e.1.entries + all_entries es

-- one inode takes at most so many more
put_more : (k d : ℕ) (c : Change) (es : List (ℕ × Change)) → is_sorted nat_cmp es ≡ true → images_in c.entries ≤ entries_at (find nat_cmp k es) + d → all_entries (put nat_cmp k c es) ≤ all_entries es + d
put_more k d c [] rise few = let none = none_new Kept in omega (arith, few, none)
put_more k d c (e ∷ es) rise few =
    let both = and_true (below_all nat_cmp e.0 es) (is_sorted nat_cmp es) rise in
    elim (nat_cmp k e.0) as (λ r. nat_cmp k e.0 ≡ r → images_in c.entries ≤ entries_at (cond (is_eq r) (Some e.1) (find nat_cmp k es)) + d
    → all_entries (by_order r ((k, c) ∷ e ∷ es) ((e.0, c) ∷ es) (e ∷ put nat_cmp k c es)) ≤ images_in e.1.entries + all_entries es + d) [
      | Less ↦ λ less more.
          let none = not_there k es (below_less k e.0 es less both.0) in
          let alone = subst (λ o. images_in c.entries ≤ entries_at o + d) none more in
          let nothing = none_new Kept in
          omega (arith, alone, nothing)
      | Equal ↦ λ same more. omega (arith, more)
      | Greater ↦ λ later more. let rest = put_more k d c es both.1 more in omega (arith, rest)
    ] refl few

-- ---- one more effect

-- what an effect adds by its entry
abbrev net_images : Effect → ℕ
net_images (effect.Make i kind) = 0
net_images (effect.Enter d i kind name) = 1
net_images (effect.Leave d name) = 2
net_images (effect.Names i n) = 0
net_images (effect.Size i size) = 0
net_images (effect.Bytes i at bytes) = 0
net_images (effect.Drop i) = 0
net_images (effect.Swap d a e b) = 0

entries_after : (e : Effect) (c : Change) → images_in (change_after e c).entries ≤ images_in c.entries + net_images e
entries_after (effect.Make i kind) c = let none = none_new (Made kind) in omega (arith, none)
entries_after (effect.Enter d i kind name) c = named name (Some (i, kind)) c.entries
entries_after (effect.Leave d name) c = named name None c.entries
entries_after (effect.Names i n) c = omega arith
entries_after (effect.Size i size) c = omega arith
entries_after (effect.Bytes i at bytes) c = omega arith
entries_after (effect.Drop i) c = let none = none_new Gone in omega (arith, none)
entries_after (effect.Swap d a e b) c = omega arith

with_one : (e : Effect) (cs : Changes) → all_entries (fin.entries (with_effect e cs)) ≤ all_entries (fin.entries cs) + net_images e
with_one e cs =
    let s = subject e in
    let c = change_after e (change_at cs s) in
    let few : images_in c.entries ≤ entries_at (find nat_cmp s (fin.entries cs)) + net_images e = subst (λ o. images_in c.entries ≤ entries_at o + net_images e) (fin.get-entries cs s) (entries_after e (change_at cs s)) in
    let put_in = put_more s (net_images e) c (fin.entries cs) (holds (is_sorted nat_cmp (fin.entries cs)) (fin.entries_sorted cs)) few in
    subst (λ es. all_entries es ≤ all_entries (fin.entries cs) + net_images e) (sym (fin.entries-insert nat_cmp_total cs s c)) put_in

with_many : (es : List Effect) (cs : Changes) → all_entries (fin.entries (with_effects cs es)) ≤ all_entries (fin.entries cs) + sum_by net_images es
with_many [] cs = omega arith
with_many (e ∷ es) cs =
    let rest = with_many es (with_effect e cs) in
    let one = with_one e cs in
    let sum = sum_by-cons net_images e es in
    omega (arith, rest, one, sum)

-- ---- what effects weigh

-- what is entered takes one image for each name
entered_few : (h : Graph) (ps : List (ℕ × List ℕ)) → sum_by net_images (entered_places h ps) ≤ length ps
entered_few h [] = omega arith
entered_few h (p ∷ ps) =
    let rest = entered_few h ps in
    elim (child_at h p.0 p.1) as (λ (c : Option Child). sum_by net_images (entered_if p c (entered_places h ps)) ≤ length (p ∷ ps)) [
      | None ↦ omega (arith, rest)
      | Some c ↦ (let one = sum_by-cons net_images (effect.Enter p.0 c.0 c.1 p.1) (entered_places h ps) in omega (arith, rest, one))
    ]

-- entries, and two for each Swap, are within the weight
one_enough : (e : Effect) (es : List Effect) → net_images e + length (swap_places (e ∷ es)) ≤ entry_weight e + length (swap_places es)
one_enough (effect.Make i kind) es = omega arith
one_enough (effect.Enter d i kind name) es = omega arith
one_enough (effect.Leave d name) es = omega arith
one_enough (effect.Names i n) es = omega arith
one_enough (effect.Size i size) es = omega arith
one_enough (effect.Bytes i at bytes) es = omega arith
one_enough (effect.Drop i) es = omega arith
one_enough (effect.Swap d a e b) es = omega arith

enough : (es : List Effect) → sum_by net_images es + length (swap_places es) ≤ sum_by entry_weight es
enough [] = omega arith
enough (e ∷ es) =
    let one = one_enough e es in
    let rest = enough es in
    let nets = sum_by-cons net_images e es in
    let weights = sum_by-cons entry_weight e es in
    omega (arith, one, rest, nets, weights)

-- ---- images

no_length : (es : List (ℕ × Change)) → length es ≡ 0 → all_entries es ≡ 0
no_length [] none = refl
no_length (e ∷ es) none = absurd (omega (arith, none))

none_at_first : all_entries (fin.entries {X = Change} {R = nat_cmp} fin.empty) ≡ 0
none_at_first = no_length (fin.entries {X = Change} {R = nat_cmp} fin.empty) (sym (fin.len-entries {X = Change} {R = nat_cmp} fin.empty) ∙ fin.len-empty nat_cmp Change)

summed : (es : List (ℕ × Change)) → sum_by (λ e. 4 + images_in e.1.entries) es ≡ 4 * length es + all_entries es
summed [] = refl
summed (e ∷ es) =
    let rest = summed es in
    let sum = sum_by-cons (λ x. 4 + images_in x.1.entries) e es in
    omega (arith, rest, sum)

images_with : (es : List Effect) (h : Graph) (ps : List (ℕ × List ℕ)) → AreSwapped es ps → images_of (with_places es h ps) + 1 ≤ images es
images_with es h ps are =
    let cs = with_places es h ps in
    let sum = summed (fin.entries cs) in
    let keys = fin.len-entries cs in
    let many = inodes_told es h ps are in
    let entered = with_many (entered_places h ps) (coalesced_changes es) in
    let entries = with_many es fin.empty in
    let first = none_at_first in
    omega (arith, sum, keys, many, entered, entered_few h ps, are.few, entries, first, enough es)

pub images_told : (g : Graph) (es : List Effect) → images_of (told_change g (swapped_sum es)) + 1 ≤ images es
images_told g es = images_with es (after_effects g (kept_names es)) (swap_places (kept_names es)) (kept_swapped es)

-- the same without what is entered
pub images_within : (es : List Effect) → images_of (coalesced_changes es) + 1 ≤ images es
images_within es = images_with es (λ i. None) [] (none_swapped es)
