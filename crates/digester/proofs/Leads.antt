-- Effects within the limits leave directories that lead to inodes, and what they come to on a graph is within the limits.
use Rattle.std.proofs.Common.{◌≡◌, ℕ, cond, true, false, List, [], ◌∷◌, Option, Some, None, sym, subst}
use Rattle.std.specs.Prelude.{IfSome, option_map, if◌then◌else◌}
use Rattle.std.specs.List.{AllByRecursion, list_any}
use Rattle.std.specs.FinMap as fin
use Rattle.std.specs.Ordering.{nat_cmp, eq_by_cmp}
use Rattle.std.specs.Cmp.Lexicographic.{slice_cmp, nat_list_cmp_total}
use Rattle.std.proofs.lemmas.Bool.{and_from, and_parts}
use Rattle.posix_calls.specs.Content.{Entries, with_length, with_bytes}
use Rattle.update_log.specs.file_graph.declared.effect.Kind.{Kind}
use Rattle.update_log.specs.file_graph.declared.effect.Kind.TheVariants as kind
use Rattle.update_log.specs.file_graph.declared.effect.Effect.{Effect}
use Rattle.update_log.specs.file_graph.declared.effect.Effect.TheVariants as effect
use Rattle.update_log.specs.file_graph.Graph.{Graph, Node, Body, FileBody, DirBody, subjects, is_among, subject_after, with_body, in_file, in_directory, node_entries, acted_graph, acted_all, exchanged_entries, child_at, after_effect, after_effects, swap_places, entered_if, entered_places}
use Rattle.update_log.specs.file_graph.Numbers.{is_inode}
use Rattle.update_log.specs.file_graph.Plain.{is_swap}
use Rattle.coalescer.specs.graph_change.Bounds.{is_bounded, AreBounded}
use Rattle.coalescer.specs.graph_change.Change.{coalesced_changes}
use Rattle.coalescer.specs.graph_change.Swaps.{is_on_names, on_names, kept_names, swapped_sum, told_change}
use Rattle.coalescer.proofs.graph_change_lemmas.Bounding.{bounded_coalesced, bounded_many}
use Rattle.digester.specs.Plan.{NamesLeadToInodes}

abbrev Child : Type 0
Child = ℕ × Kind

abbrev IsLed : Option Child → Type 0
IsLed o = IfSome o (λ child. is_inode child.0 ≡ true)

-- what stands at an inode leads to inodes
abbrev Leads : Option Node → Type 0
Leads o = (name : List ℕ) → IsLed (fin.get (node_entries o) name)

abbrev AreWithin : List Effect → Type 0
AreWithin es = AllByRecursion (λ e. is_bounded e ≡ true) es

-- ---- one node

none_led : (name : List ℕ) → IsLed (fin.get {R = slice_cmp nat_cmp} fin.empty name)
none_led name = subst IsLed (sym (fin.get-empty (slice_cmp nat_cmp) name)) tt

-- one with this body, for each number of names
abbrev with : ℕ → Body → Option Node
with names body = Some (record { names = names; body = body })

entries_led : (f : Entries Child → Entries Child) → ((es : Entries Child) → ((q : List ℕ) → IsLed (fin.get es q)) → (q : List ℕ) → IsLed (fin.get (f es) q)) → (o : Option Node) → Leads o → Leads (option_map (with_body (in_directory f)) o)
entries_led f keeps None leads = leads
entries_led f keeps (Some n) leads = elim (n.body) as (λ y. Leads (with n.names y) → Leads (option_map (with_body (in_directory f)) (with n.names y))) [ FileBody bytes ↦ λ l. l | DirBody es ↦ λ l. keeps es l ] leads

bytes_led : (f : List ℕ → List ℕ) (o : Option Node) → Leads o → Leads (option_map (with_body (in_file f)) o)
bytes_led f None leads = leads
bytes_led f (Some n) leads = elim (n.body) as (λ y. Leads (with n.names y) → Leads (option_map (with_body (in_file f)) (with n.names y))) [ FileBody bytes ↦ λ l. l | DirBody es ↦ λ l. l ] leads

named_led : (names : ℕ) (o : Option Node) → Leads o → Leads (option_map (λ x. record { names = names; body = x.body }) o)
named_led names None leads = leads
named_led names (Some n) leads = leads

entered_led : (i : ℕ) (k : Kind) (name : List ℕ) → is_inode i ≡ true → (es : Entries Child) → ((q : List ℕ) → IsLed (fin.get es q)) → (q : List ℕ) → IsLed (fin.get (fin.insert es name (i, k)) q)
entered_led i k name is es each q =
    subst IsLed (sym (fin.get-insert nat_list_cmp_total es name (i, k) q))
    (elim (eq_by_cmp (slice_cmp nat_cmp) q name) as (λ b. IsLed (cond b (Some (i, k)) (fin.get es q))) [ true ↦ is | false ↦ each q ])

left_led : (name : List ℕ) (es : Entries Child) → ((q : List ℕ) → IsLed (fin.get es q)) → (q : List ℕ) → IsLed (fin.get (fin.remove es name) q)
left_led name es each q =
    subst IsLed (sym (fin.get-remove nat_list_cmp_total es name q))
    (elim (eq_by_cmp (slice_cmp nat_cmp) q name) as (λ b. IsLed (cond b None (fin.get es q))) [ true ↦ tt | false ↦ each q ])

subject_led : (e : Effect) → is_bounded e ≡ true → (o : Option Node) → Leads o → Leads (subject_after e o)
subject_led (effect.Make i kind.File) is o leads = none_led
subject_led (effect.Make i kind.Directory) is o leads = none_led
subject_led (effect.Enter d i k name) is o leads = entries_led (λ es. fin.insert es name (i, k)) (entered_led i k name (and_parts (is_inode d) (is_inode i) is).1) o leads
subject_led (effect.Leave d name) is o leads = entries_led (λ es. fin.remove es name) (left_led name) o leads
subject_led (effect.Names i n) is o leads = named_led n o leads
subject_led (effect.Size i size) is o leads = bytes_led (with_length size) o leads
subject_led (effect.Bytes i at new) is o leads = bytes_led (with_bytes at new) o leads
subject_led (effect.Drop i) is o leads = none_led
subject_led (effect.Swap d a e b) is o leads = leads

-- ---- a graph

acted_led : (e : Effect) → is_bounded e ≡ true → (g : Graph) → NamesLeadToInodes g → NamesLeadToInodes (acted_graph g e)
acted_led e is g all i = elim (is_among i (subjects e)) as (λ b. Leads (cond b (subject_after e (g i)) (g i))) [ true ↦ subject_led e is (g i) (all i) | false ↦ all i ]

exchanged_led : (g : Graph) (d : ℕ) (a : List ℕ) (e : ℕ) (b : List ℕ) (x y : Option Child) → is_inode d ≡ true → is_inode e ≡ true → IsLed x → IsLed y → NamesLeadToInodes g → NamesLeadToInodes (acted_all g (exchanged_entries d a e b x y))
exchanged_led g d a e b (Some x) (Some y) is_d is_e is_x is_y all =
    acted_led (effect.Enter e x.0 x.1 b) (and_from (is_inode e) (is_inode x.0) is_e is_x) (acted_graph g (effect.Enter d y.0 y.1 a))
    (acted_led (effect.Enter d y.0 y.1 a) (and_from (is_inode d) (is_inode y.0) is_d is_y) g all)
exchanged_led g d a e b (Some x) None is_d is_e is_x is_y all = all
exchanged_led g d a e b None y is_d is_e is_x is_y all = all

one_led : (e : Effect) → is_bounded e ≡ true → (g : Graph) → NamesLeadToInodes g → NamesLeadToInodes (after_effect g e)
one_led (effect.Make i k) is g all = acted_led (effect.Make i k) is g all
one_led (effect.Enter d i k name) is g all = acted_led (effect.Enter d i k name) is g all
one_led (effect.Leave d name) is g all = acted_led (effect.Leave d name) is g all
one_led (effect.Names i n) is g all = acted_led (effect.Names i n) is g all
one_led (effect.Size i size) is g all = acted_led (effect.Size i size) is g all
one_led (effect.Bytes i at new) is g all = acted_led (effect.Bytes i at new) is g all
one_led (effect.Drop i) is g all = acted_led (effect.Drop i) is g all
one_led (effect.Swap d a e b) is g all =
    let both = and_parts (is_inode d) (is_inode e) is in
    exchanged_led g d a e b (child_at g d a) (child_at g e b) both.0 both.1 (all d a) (all e b) all

all_led : (es : List Effect) → AreWithin es → (g : Graph) → NamesLeadToInodes g → NamesLeadToInodes (after_effects g es)
all_led [] within g all = all
all_led (e ∷ es) within g all = all_led es within.1 (after_effect g e) (one_led e within.0 g all)

-- ---- what is entered

abbrev AreInodes : List (ℕ × List ℕ) → Type 0
AreInodes ps = AllByRecursion (λ p. is_inode p.0 ≡ true) ps

entered_within : (h : Graph) (ps : List (ℕ × List ℕ)) → NamesLeadToInodes h → AreInodes ps → AreWithin (entered_places h ps)
entered_within h [] all on = tt
entered_within h (p ∷ ps) all on =
    elim (child_at h p.0 p.1) as (λ (c : Option Child). IsLed c → AreWithin (entered_if p c (entered_places h ps))) [
      | None ↦ λ led. entered_within h ps all on.1
      | Some c ↦ λ led. (and_from (is_inode p.0) (is_inode c.0) on.0 led, entered_within h ps all on.1)
    ] (all p.0 p.1)

places_within : (es : List Effect) → AreWithin es → AreInodes (swap_places es)
places_within [] within = tt
places_within (effect.Make i k ∷ es) within = places_within es within.1
places_within (effect.Enter d i k name ∷ es) within = places_within es within.1
places_within (effect.Leave d name ∷ es) within = places_within es within.1
places_within (effect.Names i n ∷ es) within = places_within es within.1
places_within (effect.Size i size ∷ es) within = places_within es within.1
places_within (effect.Bytes i at new ∷ es) within = places_within es within.1
places_within (effect.Drop i ∷ es) within = places_within es within.1
places_within (effect.Swap d a e b ∷ es) within = let both = and_parts (is_inode d) (is_inode e) within.0 in (both.0, (both.1, places_within es within.1))

names_within : (es : List Effect) → AreWithin es → AreWithin (on_names es)
names_within [] within = tt
names_within (e ∷ es) within = elim (is_on_names e) as (λ b. AreWithin (if b then e ∷ on_names es else on_names es)) [ true ↦ (within.0, names_within es within.1) | false ↦ names_within es within.1 ]

kept_within : (es : List Effect) → AreWithin es → AreWithin (kept_names es)
kept_within es within = elim (list_any is_swap es) as (λ b. AreWithin (if b then on_names es else [])) [ true ↦ names_within es within | false ↦ tt ]

pub told_bounded : (g : Graph) (es : List Effect) → NamesLeadToInodes g → AreWithin es → AreBounded (told_change g (swapped_sum es))
told_bounded g es leads within =
    let names = kept_names es in
    let kept = kept_within es within in
    bounded_many (entered_places (after_effects g names) (swap_places names)) (coalesced_changes es)
    (entered_within (after_effects g names) (swap_places names) (all_led names kept g leads) (places_within names kept)) (bounded_coalesced es within)
