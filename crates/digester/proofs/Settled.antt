-- Each inode that effects change on a graph is in their change on it.
use Rattle.std.proofs.Common.{◌≡◌, ◌⊎◌, inl, inr, ℕ, ◌==◌, ◌||◌, cond, Bool, true, false, List, [], ◌∷◌, ◌++◌, Option, Some, None, refl, ap, sym, subst, ◌∙◌}
use Rattle.std.specs.Prelude.{is_some, option_map, if◌then◌else◌}
use Rattle.std.specs.List.{list_any}
use Rattle.std.specs.FinMap as fin
use Rattle.std.specs.Ordering.{nat_cmp, eq_by_cmp}
use Rattle.std.specs.Cmp.{nat_eq_equiv}
use Rattle.std.specs.Cmp.Lexicographic.{slice_cmp, nat_list_cmp_total}
use Rattle.std.proofs.lemmas.Bool.{cases_Bool, eq-eqb, false≢true}
use Rattle.posix_calls.specs.Content.{Entries, with_length, with_bytes}
use Rattle.update_log.specs.file_graph.declared.effect.Kind.{Kind}
use Rattle.update_log.specs.file_graph.declared.effect.Effect.{Effect}
use Rattle.update_log.specs.file_graph.declared.effect.Effect.TheVariants as effect
use Rattle.update_log.specs.file_graph.Graph.{Graph, Node, FileBody, DirBody, subjects, is_among, touches, subject_after, with_body, in_file, node_entries, directory_in, acted_graph, acted_all, exchanged_entries, plain_effects, settled_effects, child_at, after_effect, after_effects, swap_places, entered_if, entered_places}
use Rattle.update_log.specs.file_graph.Plain.{is_swap}
use Rattle.update_log.specs.file_graph.Subject.{subject}
use Rattle.update_log.proofs.file_graph_lemmas.Touches.{directories_after, entries_in, or_empty, untouched_one}
use Rattle.coalescer.specs.graph_change.Change.{changes_inode, coalesced_changes}
use Rattle.coalescer.specs.graph_change.Swaps.{is_on_names, on_names, kept_names, swapped_sum, told_change}
use Rattle.coalescer.proofs.graph_change_lemmas.SwapNames.{places_are}
use Rattle.coalescer.proofs.graph_change_lemmas.Touched.{coalesces, with_has}
use Rattle.digester.proofs.Known.{among_joined, either_of, one_of, or_of, touches_joined}

abbrev Child : Type 0
Child = ℕ × Kind

or_cases : (b c : Bool) → (b || c) ≡ true → (b ≡ true) ⊎ (c ≡ true)
or_cases true c h = inl refl
or_cases false c h = inr h

neither : (b c : Bool) → (b || c) ≡ false → (b ≡ false) × (c ≡ false)
neither true c h = absurd (false≢true (sym h))
neither false c h = (refl, h)

-- ---- the effects on names tell all directories

abbrev AllAlike : Graph → Graph → Type 0
AllAlike g h = (j : ℕ) → directory_in (g j) ≡ directory_in (h j)

names_quiet : (n : ℕ) (o : Option Node) → directory_in (option_map (λ x. record { names = n; body = x.body }) o) ≡ directory_in o
names_quiet n None = refl
names_quiet n (Some x) = refl

bytes_quiet : (f : List ℕ → List ℕ) (o : Option Node) → directory_in (option_map (with_body (in_file f)) o) ≡ directory_in o
bytes_quiet f None = refl
bytes_quiet f (Some n) = elim (n.body) as (λ y. directory_in (option_map (with_body (in_file f)) (Some (record { names = n.names; body = y }))) ≡ directory_in (Some (record { names = n.names; body = y }))) [ FileBody bytes ↦ refl | DirBody es ↦ refl ]

quiet_at : (e : Effect) (h : Graph) (j : ℕ) → directory_in (subject_after e (h j)) ≡ directory_in (h j) → directory_in (acted_graph h e j) ≡ directory_in (h j)
quiet_at e h j stays = elim (is_among j (subjects e)) as (λ b. directory_in (cond b (subject_after e (h j)) (h j)) ≡ directory_in (h j)) [ true ↦ stays | false ↦ refl ]

quiet : (e : Effect) (h : Graph) → is_on_names e ≡ false → AllAlike (after_effect h e) h
quiet (effect.Make i k) h off j = absurd (false≢true (sym off))
quiet (effect.Enter d i k name) h off j = absurd (false≢true (sym off))
quiet (effect.Leave d name) h off j = absurd (false≢true (sym off))
quiet (effect.Names i n) h off j = quiet_at (effect.Names i n) h j (names_quiet n (h j))
quiet (effect.Size i size) h off j = quiet_at (effect.Size i size) h j (bytes_quiet (with_length size) (h j))
quiet (effect.Bytes i at new) h off j = quiet_at (effect.Bytes i at new) h j (bytes_quiet (with_bytes at new) (h j))
quiet (effect.Drop i) h off j = absurd (false≢true (sym off))
quiet (effect.Swap d a e b) h off j = absurd (false≢true (sym off))

names_alike : (es : List Effect) (g h : Graph) → AllAlike g h → AllAlike (after_effects g (on_names es)) (after_effects h es)
names_alike [] g h same = same
names_alike (e ∷ es) g h same =
    elim (is_on_names e) as (λ b. is_on_names e ≡ b → AllAlike (after_effects g (if b then e ∷ on_names es else on_names es)) (after_effects (after_effect h e) es)) [
      | true ↦ λ on. names_alike es (after_effect g e) (after_effect h e) (λ j. directories_after g h (e ∷ []) (λ k among. same k) j (same j))
      | false ↦ λ off. names_alike es g (after_effect h e) (λ j. same j ∙ sym (quiet e h off j))
    ] refl

child_alike : (g h : Graph) (d : ℕ) (name : List ℕ) → directory_in (g d) ≡ directory_in (h d) → child_at g d name ≡ child_at h d name
child_alike g h d name same = ap (λ (m : Entries Child). fin.get m name) (entries_in (g d) ∙ ap or_empty same ∙ sym (entries_in (h d)))

-- ---- a name that leads somewhere still does, where nothing but Swaps is on its directory

entered_stays : (d c : ℕ) (k : Kind) (name q : List ℕ) (o : Option Node) → is_some (fin.get (node_entries o) q) ≡ true → is_some (fin.get (node_entries (subject_after (effect.Enter d c k name) o)) q) ≡ true
entered_stays d c k name q None some = some
entered_stays d c k name q (Some n) some =
    elim (n.body) as (λ y. is_some (fin.get (node_entries (Some (record { names = n.names; body = y }))) q) ≡ true → is_some (fin.get (node_entries (subject_after (effect.Enter d c k name) (Some (record { names = n.names; body = y })))) q) ≡ true) [
      | FileBody bytes ↦ λ there. there
      | DirBody es ↦ λ there. ap is_some (fin.get-insert nat_list_cmp_total es name (c, k) q) ∙ elim (eq_by_cmp (slice_cmp nat_cmp) q name) as (λ b. is_some (cond b (Some (c, k)) (fin.get es q)) ≡ true) [ true ↦ refl | false ↦ there ]
    ] some

enter_stays : (g : Graph) (d c : ℕ) (k : Kind) (name : List ℕ) (i : ℕ) (q : List ℕ) → is_some (child_at g i q) ≡ true → is_some (child_at (acted_graph g (effect.Enter d c k name)) i q) ≡ true
enter_stays g d c k name i q some =
    elim (is_among i (d ∷ [])) as (λ b. is_some (fin.get (node_entries (cond b (subject_after (effect.Enter d c k name) (g i)) (g i))) q) ≡ true) [
      | true ↦ entered_stays d c k name q (g i) some
      | false ↦ some
    ]

exchange_stays : (g : Graph) (d : ℕ) (a : List ℕ) (e : ℕ) (b : List ℕ) (x y : Option Child) (i : ℕ) (q : List ℕ) → is_some (child_at g i q) ≡ true → is_some (child_at (acted_all g (exchanged_entries d a e b x y)) i q) ≡ true
exchange_stays g d a e b (Some x) (Some y) i q some = enter_stays (acted_graph g (effect.Enter d y.0 y.1 a)) e x.0 x.1 b i q (enter_stays g d y.0 y.1 a i q some)
exchange_stays g d a e b (Some x) None i q some = some
exchange_stays g d a e b None y i q some = some

-- an effect with one inode, which is another one
apart_stays : (g : Graph) (e : Effect) (s i : ℕ) (q : List ℕ) → subjects e ≡ s ∷ [] → (i == s) ≡ false → is_some (child_at g i q) ≡ true → is_some (child_at (after_effect g e) i q) ≡ true
apart_stays g e s i q one off some =
    ap (λ (o : Option Node). is_some (fin.get (node_entries o) q)) (untouched_one g e i (ap (is_among i) one ∙ ap (λ b. b || false) (nat_eq_equiv.symm s i ∙ off))) ∙ some

effect_stays : (g : Graph) (e : Effect) (i : ℕ) (q : List ℕ) → (i == subject e) ≡ false → is_some (child_at g i q) ≡ true → is_some (child_at (after_effect g e) i q) ≡ true
effect_stays g (effect.Make s k) i q off some = apart_stays g (effect.Make s k) s i q refl off some
effect_stays g (effect.Enter s c k name) i q off some = apart_stays g (effect.Enter s c k name) s i q refl off some
effect_stays g (effect.Leave s name) i q off some = apart_stays g (effect.Leave s name) s i q refl off some
effect_stays g (effect.Names s n) i q off some = apart_stays g (effect.Names s n) s i q refl off some
effect_stays g (effect.Size s size) i q off some = apart_stays g (effect.Size s size) s i q refl off some
effect_stays g (effect.Bytes s at new) i q off some = apart_stays g (effect.Bytes s at new) s i q refl off some
effect_stays g (effect.Drop s) i q off some = apart_stays g (effect.Drop s) s i q refl off some
effect_stays g (effect.Swap d a e b) i q off some = exchange_stays g d a e b (child_at g d a) (child_at g e b) i q some

all_stays : (es : List Effect) (g : Graph) (i : ℕ) (q : List ℕ) → changes_inode es i ≡ false → is_some (child_at g i q) ≡ true → is_some (child_at (after_effects g es) i q) ≡ true
all_stays [] g i q off some = some
all_stays (e ∷ es) g i q off some =
    let apart = neither (i == subject e) (changes_inode es i) off in
    all_stays es (after_effect g e) i q apart.1 (effect_stays g e i q apart.0 some)

-- ---- what is changed is in the change

-- an inode is one of the effects' own, or what swapped names lead to in the end is entered there
abbrev Ends : Graph → List Effect → ℕ → Type 0
Ends g es i = (changes_inode es i ≡ true) ⊎ ((h : Graph) → AllAlike h (after_effects g es) → changes_inode (entered_places h (swap_places es)) i ≡ true)

behind : (p : ℕ × List ℕ) (c : Option Child) (es : List Effect) (i : ℕ) → changes_inode es i ≡ true → changes_inode (entered_if p c es) i ≡ true
behind p None es i there = there
behind p (Some c) es i there = or_of (i == p.0) (changes_inode es i) there

first : (p : ℕ × List ℕ) (c : Option Child) (es : List Effect) → is_some c ≡ true → changes_inode (entered_if p c es) p.0 ≡ true
first p None es some = absurd (false≢true some)
first p (Some c) es some = either_of (p.0 == p.0) (changes_inode es p.0) (eq-eqb p.0 p.0 refl)

-- of an effect that is no Swap
plain_ends : (g : Graph) (e : Effect) (s : ℕ) (es : List Effect) (i : ℕ) → plain_effects g e ≡ e ∷ [] → subjects e ≡ s ∷ [] → subject e ≡ s → swap_places (e ∷ es) ≡ swap_places es
    → (is_among i (touches (settled_effects (after_effect g e) es)) ≡ true → Ends (after_effect g e) es i) → is_among i (touches (settled_effects g (e ∷ es))) ≡ true → Ends g (e ∷ es) i
plain_ends g e s es i plain one own places rest among =
    let later = settled_effects (after_effect g e) es in
    let split : (is_among i (s ∷ []) || is_among i (touches later)) ≡ true =
    ap (λ xs. is_among i xs || is_among i (touches later)) (sym (ap touches plain ∙ ap (λ xs. xs ++ []) one)) ∙ sym (among_joined i (touches (plain_effects g e)) (touches later)) ∙ ap (is_among i) (sym (touches_joined (plain_effects g e) later)) ∙ among in
    elim (or_cases (is_among i (s ∷ [])) (is_among i (touches later)) split) [
      | inl here ↦ inl (either_of (i == subject e) (changes_inode es i) (eq-eqb i (subject e) (sym (one_of i s here) ∙ sym own)))
      | inr there ↦ elim (rest there) [
        | inl its ↦ inl (or_of (i == subject e) (changes_inode es i) its)
        | inr ends ↦ inr (λ h alike. ap (λ ps. changes_inode (entered_places h ps) i) places ∙ ends h alike)
      ]
    ]

-- what is said of the effects behind a Swap
after_swap : (g : Graph) (d : ℕ) (a : List ℕ) (e : ℕ) (b : List ℕ) (es : List Effect) (i : ℕ) → Ends (after_effect g (effect.Swap d a e b)) es i → Ends g (effect.Swap d a e b ∷ es) i
after_swap g d a e b es i (inl its) = inl (or_of (i == d) (changes_inode es i) its)
after_swap g d a e b es i (inr ends) = inr (λ h alike. behind (d, a) (child_at h d a) (entered_places h ((e, b) ∷ swap_places es)) i (behind (e, b) (child_at h e b) (entered_places h (swap_places es)) i (ends h alike)))

-- its second directory, where the name there leads somewhere
second_ends : (g : Graph) (d : ℕ) (a : List ℕ) (e : ℕ) (b : List ℕ) (es : List Effect) → is_some (child_at g e b) ≡ true → Ends g (effect.Swap d a e b ∷ es) e
second_ends g d a e b es some = elim (cases_Bool (changes_inode es e)) [
  | inl own ↦ inl (or_of (e == d) (changes_inode es e) own)
  | inr off ↦ inr (λ h alike.
      let stays = all_stays es (after_effect g (effect.Swap d a e b)) e b off (exchange_stays g d a e b (child_at g d a) (child_at g e b) e b some) in
      behind (d, a) (child_at h d a) (entered_places h ((e, b) ∷ swap_places es)) e
      (first (e, b) (child_at h e b) (entered_places h (swap_places es)) (ap is_some (child_alike h (after_effects g (effect.Swap d a e b ∷ es)) e b (alike e)) ∙ stays)))
]

-- of a Swap, by what its names lead to
swap_ends : (g : Graph) (d : ℕ) (a : List ℕ) (e : ℕ) (b : List ℕ) (x y : Option Child) (es later : List Effect) (i : ℕ) → child_at g e b ≡ y
    → (is_among i (touches later) ≡ true → Ends (after_effect g (effect.Swap d a e b)) es i)
    → is_among i (touches (exchanged_entries d a e b x y ++ later)) ≡ true → Ends g (effect.Swap d a e b ∷ es) i
swap_ends g d a e b (Some x) (Some y) es later i is rest among = elim (or_cases (d == i) (e == i || is_among i (touches later)) among) [
  | inl here ↦ inl (either_of (i == d) (changes_inode es i) (nat_eq_equiv.symm i d ∙ here))
  | inr more ↦ elim (or_cases (e == i) (is_among i (touches later)) more) [
    | inl here ↦ subst (Ends g (effect.Swap d a e b ∷ es)) (one_of i e (ap (λ c. c || false) here)) (second_ends g d a e b es (ap is_some is))
    | inr there ↦ after_swap g d a e b es i (rest there)
  ]
]
swap_ends g d a e b (Some x) None es later i is rest among = after_swap g d a e b es i (rest among)
swap_ends g d a e b None y es later i is rest among = after_swap g d a e b es i (rest among)

ends : (es : List Effect) (g : Graph) (i : ℕ) → is_among i (touches (settled_effects g es)) ≡ true → Ends g es i
ends [] g i among = absurd (false≢true among)
ends (effect.Make s k ∷ es) g i among = plain_ends g (effect.Make s k) s es i refl refl refl refl (ends es (after_effect g (effect.Make s k)) i) among
ends (effect.Enter s c k name ∷ es) g i among = plain_ends g (effect.Enter s c k name) s es i refl refl refl refl (ends es (after_effect g (effect.Enter s c k name)) i) among
ends (effect.Leave s name ∷ es) g i among = plain_ends g (effect.Leave s name) s es i refl refl refl refl (ends es (after_effect g (effect.Leave s name)) i) among
ends (effect.Names s n ∷ es) g i among = plain_ends g (effect.Names s n) s es i refl refl refl refl (ends es (after_effect g (effect.Names s n)) i) among
ends (effect.Size s size ∷ es) g i among = plain_ends g (effect.Size s size) s es i refl refl refl refl (ends es (after_effect g (effect.Size s size)) i) among
ends (effect.Bytes s at new ∷ es) g i among = plain_ends g (effect.Bytes s at new) s es i refl refl refl refl (ends es (after_effect g (effect.Bytes s at new)) i) among
ends (effect.Drop s ∷ es) g i among = plain_ends g (effect.Drop s) s es i refl refl refl refl (ends es (after_effect g (effect.Drop s)) i) among
ends (effect.Swap d a e b ∷ es) g i among =
    let next = after_effect g (effect.Swap d a e b) in
    swap_ends g d a e b (child_at g d a) (child_at g e b) es (settled_effects next es) i refl (ends es next i) among

no_places : (es : List Effect) → list_any is_swap es ≡ false → swap_places es ≡ []
no_places [] off = refl
no_places (effect.Make i k ∷ es) off = no_places es off
no_places (effect.Enter d i k name ∷ es) off = no_places es off
no_places (effect.Leave d name ∷ es) off = no_places es off
no_places (effect.Names i n ∷ es) off = no_places es off
no_places (effect.Size i size ∷ es) off = no_places es off
no_places (effect.Bytes i at new ∷ es) off = no_places es off
no_places (effect.Drop i ∷ es) off = no_places es off
no_places (effect.Swap d a e b ∷ es) off = absurd (false≢true (sym off))

-- what is entered over the effects that are kept
entered_told : (g : Graph) (es : List Effect) (i : ℕ) → ((h : Graph) → AllAlike h (after_effects g es) → changes_inode (entered_places h (swap_places es)) i ≡ true) → changes_inode (entered_places (after_effects g (kept_names es)) (swap_places (kept_names es))) i ≡ true
entered_told g es i entered =
    elim (list_any is_swap es) as (λ b. list_any is_swap es ≡ b → changes_inode (entered_places (after_effects g (if b then on_names es else [])) (swap_places (if b then on_names es else []))) i ≡ true) [
      | true ↦ λ on. ap (λ ps. changes_inode (entered_places (after_effects g (on_names es)) ps) i) (places_are es) ∙ entered (after_effects g (on_names es)) (names_alike es g g (λ j. refl))
      | false ↦ λ off. absurd (false≢true (sym (ap (λ ps. changes_inode (entered_places (after_effects g es) ps) i) (no_places es off)) ∙ entered (after_effects g es) (λ j. refl)))
    ] refl

pub settled_told : (g : Graph) (es : List Effect) (i : ℕ) → is_among i (touches (settled_effects g es)) ≡ true → fin.contains_key (told_change g (swapped_sum es)) i ≡ true
settled_told g es i among =
    let entered = entered_places (after_effects g (kept_names es)) (swap_places (kept_names es)) in
    with_has entered (coalesced_changes es) i
    ∙ elim (ends es g i among) [
      | inl own ↦ either_of (fin.contains_key (coalesced_changes es) i) (changes_inode entered i) ((coalesces es).inodes i ∙ own)
      | inr told ↦ or_of (fin.contains_key (coalesced_changes es) i) (changes_inode entered i) (entered_told g es i told)
    ]
