-- Which blocks stay in a client's cache, in their order, as those of some inodes go.
use Rattle.std.proofs.Common.{◌≡◌, inl, inr, ℕ, zero, suc, ◌+◌, ◌<◌, ◌≤◌, Bool, true, false, cond, List, [], ◌∷◌, ◌++◌, length, take, get_or, Option, None, Some, refl, ap, sym, ◌∙◌, append-nil, arith}
use Rattle.std.specs.Prelude.{◌==◌, ◌||◌, not}
use Rattle.std.specs.List.{filter}
use Rattle.std.proofs.lemmas.Bool.{cases_eq, eq-eqb, ne_eqb}
use Rattle.std.proofs.lemmas.List.{take_all, take_more}
use Rattle.std.proofs.lemmas.List.Folds.{list_any-append}
use Rattle.std.proofs.lemmas.List.Concat.{flat_map-cons}
use Rattle.std.proofs.lemmas.Grind.{flat_map-append}
use Rattle.block_cache.specs.CacheList.{Block, without_file}
use Rattle.client_plan.specs.file_graph.Graph.{is_among, subjects, touches}
use Rattle.client_plan.specs.file_graph.declared.effect.Effect.{Effect}
use Rattle.client_plan.specs.file_graph.Subject.{one_or_two}
use Rattle.record_validation.proofs.Steps.{on_one, on_two}
use Rattle.client_view.specs.AfterRecord.{without_made, without_touched}
use Rattle.client_view.proofs.Untouched.{among_more}

-- ---- those of all inodes but some

abbrev pub apart : (ℕ → Bool) → List Block → List Block
apart gone bs = filter (λ b. not (gone b.inode)) bs

one_apart : (t u : Bool) (g : Block → Bool) (b : Block) (bs rest : List Block) → g b ≡ not u → filter g bs ≡ rest → filter g (cond (not t) (b ∷ bs) bs) ≡ cond (not (t || u)) (b ∷ rest) rest
one_apart true u g b bs rest is all = all
one_apart false true g b bs rest is all = ap (λ c. cond c (b ∷ filter g bs) (filter g bs)) is ∙ all
one_apart false false g b bs rest is all = ap (λ c. cond c (b ∷ filter g bs) (filter g bs)) is ∙ ap (λ l. b ∷ l) all

pub apart_twice : (f g : ℕ → Bool) (bs : List Block) → apart g (apart f bs) ≡ apart (λ i. f i || g i) bs
apart_twice f g [] = refl
apart_twice f g (b ∷ bs) = one_apart (f b.inode) (g b.inode) (λ x. not (g x.inode)) b (apart f bs) (apart (λ i. f i || g i) bs) refl (apart_twice f g bs)

pub same_apart : (f g : ℕ → Bool) → ((i : ℕ) → f i ≡ g i) → (bs : List Block) → apart f bs ≡ apart g bs
same_apart f g same bs = λ t. filter (λ b. not (same b.inode t)) bs

pub none_apart : (f : ℕ → Bool) → ((i : ℕ) → f i ≡ false) → (bs : List Block) → apart f bs ≡ bs
none_apart f none [] = refl
none_apart f none (b ∷ bs) = ap (λ t. cond (not t) (b ∷ apart f bs) (apart f bs)) (none b.inode) ∙ ap (λ l. b ∷ l) (none_apart f none bs)

-- ---- those that effects touch

turned : (i j : ℕ) → (j == i) ≡ (i == j)
turned i j = elim (cases_eq i j) [
  | inl same ↦ eq-eqb j i (sym same) ∙ sym (eq-eqb i j same)
  | inr other ↦ ne_eqb j i (λ same. other (sym same)) ∙ sym (ne_eqb i j other)
]

pub touched_joined : (i : ℕ) (es more : List Effect) → is_among i (touches (es ++ more)) ≡ (is_among i (touches es) || is_among i (touches more))
touched_joined i es more = ap (is_among i) (flat_map-append subjects es more) ∙ list_any-append (λ x. x == i) (touches es) (touches more)

-- one effect touches what it changes
touched_by : (e : Effect) → touches (e ∷ []) ≡ subjects e
touched_by e = flat_map-cons subjects e [] ∙ append-nil (subjects e)

pub taken : (es : List Effect) (n : ℕ) (e : Effect) → n < length es → e ≡ get_or es n e → take (n + 1) es ≡ take n es ++ e ∷ []
taken es n e inside is = take_more es n e inside ∙ ap (λ (x : Effect). take n es ++ x ∷ []) (sym is)

pub left_none : (bs : List Block) → bs ≡ without_touched bs []
left_none bs = sym (none_apart (λ i. is_among i (touches [])) (λ i. refl) bs)

pub left_next : (bs mid new : List Block) (es : List Effect) (n : ℕ) (e : Effect) → n < length es → e ≡ get_or es n e → mid ≡ without_touched bs (take n es) → new ≡ without_touched mid (e ∷ []) → new ≡ without_touched bs (take (n + 1) es)
left_next bs mid new es n e inside is so_far one =
    one
    ∙ ap (λ (xs : List Block). without_touched xs (e ∷ [])) so_far
    ∙ apart_twice (λ i. is_among i (touches (take n es))) (λ i. is_among i (touches (e ∷ []))) bs
    ∙ same_apart (λ i. is_among i (touches (take n es)) || is_among i (touches (e ∷ []))) (λ i. is_among i (touches (take (n + 1) es))) more bs
  where
    more : (i : ℕ) → (is_among i (touches (take n es)) || is_among i (touches (e ∷ []))) ≡ is_among i (touches (take (n + 1) es))
    more i = sym (ap (λ (xs : List Effect). is_among i (touches xs)) (taken es n e inside is) ∙ touched_joined i (take n es) (e ∷ []))

pub left_all : (bs new : List Block) (es : List Effect) (n : ℕ) → length es ≤ n → new ≡ without_touched bs (take n es) → new ≡ without_touched bs es
left_all bs new es n done is = is ∙ ap (without_touched bs) (take_all n es done)

-- those of one effect
one_among : (i d : ℕ) → (i == d) ≡ is_among i (d ∷ [])
one_among i d = turned d i ∙ sym (on_one i d)

two_among : (i d e : ℕ) → ((i == d) || (i == e)) ≡ is_among i (d ∷ e ∷ [])
two_among i d e = ap (λ b. b || (i == e)) (turned d i) ∙ ap (λ b. (d == i) || b) (turned e i) ∙ sym (on_two i d e)

among_touched : (e : Effect) (is : List ℕ) (i : ℕ) → subjects e ≡ is → is_among i is ≡ is_among i (touches (e ∷ []))
among_touched e is i are = sym (ap (is_among i) (touched_by e ∙ are))

pub left_alone : (bs : List Block) (e : Effect) (d : ℕ) (second : Option ℕ) → subjects e ≡ one_or_two d second → second ≡ None → without_file d bs ≡ without_touched bs (e ∷ [])
left_alone bs e d second are none =
    same_apart (λ i. i == d) (λ i. is_among i (touches (e ∷ []))) (λ i. one_among i d ∙ among_touched e (d ∷ []) i (are ∙ ap (one_or_two d) none)) bs

pub left_both : (bs : List Block) (e : Effect) (d other : ℕ) (second : Option ℕ) → subjects e ≡ one_or_two d second → second ≡ Some other → without_file other (without_file d bs) ≡ without_touched bs (e ∷ [])
left_both bs e d other second are some =
    apart_twice (λ i. i == d) (λ i. i == other) bs
    ∙ same_apart (λ i. (i == d) || (i == other)) (λ i. is_among i (touches (e ∷ []))) (λ i. two_among i d other ∙ among_touched e (d ∷ other ∷ []) i (are ∙ ap (one_or_two d) some)) bs

-- ---- what effects touch, one by one

or_true : (t : Bool) → (t || true) ≡ true
or_true true = refl
or_true false = refl

pub touched_at : (es : List Effect) (k : ℕ) (e : Effect) (j : ℕ) → k < length es → e ≡ get_or es k e → is_among j (subjects e) ≡ true → is_among j (touches es) ≡ true
touched_at [] k e j inside is among = absurd (omega arith)
touched_at (x ∷ es) zero e j inside is among =
    among_more j x es ∙ ap (λ t. t || is_among j (touches es)) (ap (λ (y : Effect). is_among j (subjects y)) (sym is) ∙ among)
touched_at (x ∷ es) (suc k) e j inside is among =
    among_more j x es ∙ ap (λ t. is_among j (subjects x) || t) (touched_at es k e j (omega arith) is among) ∙ or_true (is_among j (subjects x))

-- ---- those of a node that is made

pub left_made : (bs : List Block) (made : Option ℕ) → made ≡ None → bs ≡ without_made bs made
left_made bs made none = sym (ap (without_made bs) none ∙ none_apart (λ i. false) (λ i. refl) bs)
