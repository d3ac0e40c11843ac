-- Names are entered in room that was taken before the first of the effects was done.
use Rattle.std.proofs.Common.{◌≡◌, ◌≤◌, ◌<◌, ◌+◌, ◌-◌, ℕ, zero, suc, Bool, true, false, cond, List, [], ◌∷◌, ◌++◌, length, get_or, take, Option, Some, None, inl, inr, refl, ap, sym, ◌∙◌, subst, arith}
use Rattle.std.specs.Prelude.{◌==◌, IsSome, is_some, option_map, unwrap_or}
use Rattle.std.specs.FinMap as fin
use Rattle.std.specs.List.{list_any}
use Rattle.std.specs.Ordering.{nat_cmp}
use Rattle.std.specs.Cmp.Lexicographic.{slice_cmp, nat_list_cmp_total}
use Rattle.std.proofs.lemmas.Bool.{cases_eq, cond-true, eqb-true}
use Rattle.std.proofs.lemmas.List.{get_or_append_left, get_or_at, get_or_default, length-take-le, take_all}
use Rattle.client_plan.specs.file_graph.Graph.{exchanged_entries, is_among, subjects, touches}
use Rattle.client_plan.specs.file_graph.Subject.{subject}
use Rattle.client_plan.specs.file_graph.declared.effect.Effect.{Effect}
use Rattle.client_plan.specs.file_graph.declared.effect.Effect.TheVariants as effect
use Rattle.client_plan.specs.file_graph.declared.effect.Kind.{Kind}
use Rattle.client_plan.specs.file_graph.declared.effect.Kind.TheVariants as kind
use Rattle.client_plan.specs.call_effects.NodeView.{NodeView, FileView, DirView, view_acted, view_entries}
use Rattle.client_plan.specs.call_effects.Knowledge.{Knowledge}
use Rattle.client_plan.specs.call_effects.KnownCopies.{Copies, child_known, known_acted, known_acted_all, known_after, known_after_effect}
use Rattle.client_plan.proofs.call_effects_lemmas.KnownCopies.{known_joined, some_after}
use Rattle.record_validation.specs.NodeAnswers.{entries_of}
use Rattle.client_view.specs.AfterRecord.{with_effects}
use Rattle.client_view.specs.Preparation.{AreReady, IsRoomOf, any_enters, enters, names_known}
use Rattle.client_view.specs.declared.enter_room.EnterRoom.{EnterRoom}
use Rattle.record_validation.proofs.Steps.{on_one}
use Rattle.record_validation.proofs.Taken.{still_known}
use Rattle.client_view.proofs.ForgottenBlocks.{twice}
use Rattle.client_view.proofs.LeftBlocks.{taken, touched_joined}
use Rattle.client_view.proofs.Untouched.{neither}

abbrev Copy : Type 0
Copy = Option (Option NodeView)

abbrev Rooms : Type 0
Rooms = List (Option EnterRoom)

-- ---- an effect enters one name at most

no_names : fin.len (entries_of (FileView 0 0)) ≡ 0
no_names = fin.len-empty (slice_cmp nat_cmp) (ℕ × Kind)

one_more : (b : Bool) (n : ℕ) → cond b n (n + 1) ≤ n + 1
one_more true n = omega arith
one_more false n = omega arith

one_fewer : (b : Bool) (n : ℕ) → cond b (n - 1) n ≤ n + 1
one_fewer true n = omega arith
one_fewer false n = omega arith

abbrev names_of : Option NodeView → ℕ
names_of v = names_known (Some v)

grows : (e : Effect) (v : Option NodeView) → names_of (view_acted e v) ≤ names_of v + 1
grows (effect.Make i kind.File) v = subst (λ n. n ≤ names_of v + 1) (sym no_names) (omega arith)
grows (effect.Make i kind.Directory) v = subst (λ n. n ≤ names_of v + 1) (sym no_names) (omega arith)
grows (effect.Enter d i k name) None = omega arith
grows (effect.Enter d i k name) (Some (FileView names size)) = omega arith
grows (effect.Enter d i k name) (Some (DirView names es)) = subst (λ n. n ≤ fin.len es + 1) (sym (fin.len-insert nat_list_cmp_total es name (i, k))) (one_more (fin.contains_key es name) (fin.len es))
grows (effect.Leave d name) None = omega arith
grows (effect.Leave d name) (Some (FileView names size)) = omega arith
grows (effect.Leave d name) (Some (DirView names es)) = subst (λ n. n ≤ fin.len es + 1) (sym (fin.len-remove nat_list_cmp_total es name)) (one_fewer (fin.contains_key es name) (fin.len es))
grows (effect.Names i m) None = omega arith
grows (effect.Names i m) (Some (FileView names size)) = omega arith
grows (effect.Names i m) (Some (DirView names es)) = omega arith
grows (effect.Size i m) None = omega arith
grows (effect.Size i m) (Some (FileView names size)) = omega arith
grows (effect.Size i m) (Some (DirView names es)) = omega arith
grows (effect.Bytes i at new) None = omega arith
grows (effect.Bytes i at new) (Some (FileView names size)) = omega arith
grows (effect.Bytes i at new) (Some (DirView names es)) = omega arith
grows (effect.Drop i) v = omega arith
grows (effect.Swap d a e b) v = omega arith

grows_if : (b : Bool) (e : Effect) (v : Option NodeView) → names_of (cond b (view_acted e v) v) ≤ names_of v + 1
grows_if true e v = grows e v
grows_if false e v = omega arith

-- a name that is there already is none more
set_by : (t : Bool) (d c : ℕ) (k : Kind) (a : List ℕ) (o : Copy) → (t ≡ true → IsSome (fin.get (view_entries (unwrap_or o None)) a)) → names_known (option_map (λ v. cond t (view_acted (effect.Enter d c k a) v) v) o) ≡ names_known o
set_by false d c k a None there = refl
set_by false d c k a (Some v) there = refl
set_by true d c k a None there = refl
set_by true d c k a (Some None) there = refl
set_by true d c k a (Some (Some (FileView names size))) there = refl
set_by true d c k a (Some (Some (DirView names es))) there = fin.len-insert nat_list_cmp_total es a (c, k) ∙ cond-true (fin.contains_key es a) (fin.len es) (fin.len es + 1) (there refl)

set_names : (known : Copies) (d c : ℕ) (k : Kind) (a : List ℕ) (i : ℕ) → IsSome (child_known known d a) → names_known (known_acted (effect.Enter d c k a) known i) ≡ names_known (known i)
set_names known d c k a i there =
    set_by (is_among i (d ∷ [])) d c k a (known i) (λ among. subst (λ j. IsSome (child_known known j a)) (eqb-true d i (sym (on_one i d) ∙ among)) there)

-- so a Swap leaves how many there are
swapped_names : (known : Copies) (d : ℕ) (a : List ℕ) (e : ℕ) (b : List ℕ) (x y : Option (ℕ × Kind)) (i : ℕ) → child_known known d a ≡ x → child_known known e b ≡ y → names_known (known_acted_all (exchanged_entries d a e b x y) known i) ≡ names_known (known i)
swapped_names known d a e b (Some x) (Some y) i first second =
    set_names (known_acted (effect.Enter d y.0 y.1 a) known) e x.0 x.1 b i (still_known known d y.0 y.1 a e b (ap is_some second))
    ∙ set_names known d y.0 y.1 a i (ap is_some first)
swapped_names known d a e b (Some x) None i first second = refl
swapped_names known d a e b None y i first second = refl

alone_grows : (e : Effect) (known : Copies) (i : ℕ) → names_known (known_acted e known i) ≤ names_known (known i) + 1
alone_grows e known i = copy_grows (known i) where
  copy_grows : (c : Copy) → names_known (option_map (λ v. cond (is_among i (subjects e)) (view_acted e v) v) c) ≤ names_known c + 1
  copy_grows None = omega arith
  copy_grows (Some v) = grows_if (is_among i (subjects e)) e v

one_grows : (e : Effect) (known : Copies) (i : ℕ) → names_known (known_after_effect e known i) ≤ names_known (known i) + 1
one_grows (effect.Swap d a e b) known i =
    let same = swapped_names known d a e b (child_known known d a) (child_known known e b) i refl refl in
    subst (λ n. n ≤ names_known (known i) + 1) (sym same) (omega arith)
one_grows e known i = alone_grows e known i

-- effects enter no more names than they are
known_grown : (es : List Effect) (known : Copies) (i : ℕ) → names_known (known_after es known i) ≤ names_known (known i) + length es
known_grown [] known i = omega arith
known_grown (e ∷ es) known i =
    let rest : names_known (known_after es (known_after_effect e known) i) ≤ names_known (known_after_effect e known i) + length es = known_grown es (known_after_effect e known) i in
    let first : names_known (known_after_effect e known i) ≤ names_known (known i) + 1 = one_grows e known i in
    omega (arith, rest, first)

-- ---- room behind more is room behind fewer

fewer : (e : Effect) (m n : ℕ) (r : Option EnterRoom) → m ≤ n → IsRoomOf e n r → IsRoomOf e m r
fewer (effect.Make i k) m n r few room = tt
fewer (effect.Enter d i k name) m n r few room = (room.0, λ x is. let own = room.1 x is in let more = own.1 in (own.0, omega (arith, few, more)))
fewer (effect.Leave d name) m n r few room = tt
fewer (effect.Names i k) m n r few room = tt
fewer (effect.Size i size) m n r few room = tt
fewer (effect.Bytes i at new) m n r few room = tt
fewer (effect.Drop i) m n r few room = tt
fewer (effect.Swap d a e b) m n r few room = tt

-- what was taken for an effect is enough once those before it are done
pub is_room : (rooms : Rooms) (es : List Effect) (k now : Knowledge) (n : ℕ) (e : Effect) (r : Option EnterRoom) → AreReady rooms es k.copies → n < length es → e ≡ get_or es n e → now ≡ with_effects k (take n es) → r ≡ get_or rooms n None
    → IsSome (now.copies (subject e)) → IsRoomOf e (names_known (now.copies (subject e))) r
is_room rooms es k now n e r ready inside is so_far taken_is there =
    let copy : now.copies (subject e) ≡ known_after (take n es) k.copies (subject e) = ap (λ (x : Knowledge). x.copies (subject e)) so_far in
    let known : IsSome (k.copies (subject e)) = sym (some_after (take n es) k.copies (subject e)) ∙ subst IsSome copy there in
    let first = known_grown (take n es) k.copies (subject e) in
    let short : length (take n es) ≡ n = length-take-le n es (omega (arith, inside)) in
    let few : names_known (now.copies (subject e)) ≤ names_known (k.copies (subject e)) + n = subst (λ c. names_known c ≤ names_known (k.copies (subject e)) + n) (sym copy) (omega (arith, first, short)) in
    subst (IsRoomOf e (names_known (now.copies (subject e)))) (sym taken_is) (fewer e _ _ (get_or rooms n None) few (ready n e inside is known))

-- ---- the rooms, as they are taken

-- where no effect enters a name into what is known, nothing is needed
no_room : (e : Effect) (n : ℕ) (c : Copy) (r : Option EnterRoom) → enters e (λ _. c) ≡ false → IsSome c → IsRoomOf e n r
no_room (effect.Make i k) n c r none there = tt
no_room (effect.Enter d i k name) n c r none there = absurd (cc)
no_room (effect.Leave d name) n c r none there = tt
no_room (effect.Names i k) n c r none there = tt
no_room (effect.Size i size) n c r none there = tt
no_room (effect.Bytes i at new) n c r none there = tt
no_room (effect.Drop i) n c r none there = tt
no_room (effect.Swap d a e b) n c r none there = tt

none_among : {X : Type 0} (f : X → Bool) (xs : List X) (n : ℕ) (x : X) → list_any f xs ≡ false → n < length xs → x ≡ get_or xs n x → f x ≡ false
none_among f [] n x none inside is = absurd (omega arith)
none_among f (y ∷ ys) zero x none inside is = ap f is ∙ (neither (f y) (list_any f ys) none).0
none_among f (y ∷ ys) (suc n) x none inside is = none_among f ys n x (neither (f y) (list_any f ys) none).1 (omega arith) is

pub none_ready : (rooms : Rooms) (es : List Effect) (copies : ℕ → Copy) → any_enters es copies ≡ false → AreReady rooms es copies
none_ready rooms es copies none n e inside is there = no_room e _ (copies (subject e)) (get_or rooms n None) (none_among (λ x. enters x copies) es n e none inside is) there

-- those for the first so many effects are ready
abbrev pub AreReadyTo : ℕ → Rooms → List Effect → (ℕ → Copy) → Type 0
AreReadyTo k rooms es copies = (n : ℕ) (e : Effect) → n < k → e ≡ get_or es n e → IsSome (copies (subject e)) → IsRoomOf e (names_known (copies (subject e)) + n) (get_or rooms n None)

module _ (rooms : Rooms) (r : Option EnterRoom) (es : List Effect) (copies : ℕ → Copy) (k : ℕ) (e : Effect) (long : length rooms ≡ k) (inside : k < length es) (is : e ≡ get_or es k e) (room : IsRoomOf e (names_known (copies (subject e)) + k) r) where
  at_last : (n : ℕ) (f : Effect) → n ≡ k → f ≡ get_or es n f → IsRoomOf f (names_known (copies (subject f)) + n) (get_or (rooms ++ r ∷ []) n None)
  at_last n f same at =
      let one : f ≡ e = at ∙ ap (λ m. get_or es m f) same ∙ get_or_default es k f e inside ∙ sym is in
      subst (λ o. IsRoomOf f (names_known (copies (subject f)) + n) o) (sym (get_or_at rooms r [] None n (long ∙ sym same)))
      (subst (λ m. IsRoomOf f (names_known (copies (subject f)) + m) r) (sym same)
      (subst (λ (x : Effect). IsRoomOf x (names_known (copies (subject x)) + k) r) (sym one) room))

  pub ready_next : AreReadyTo k rooms es copies → AreReadyTo (k + 1) (rooms ++ r ∷ []) es copies
  ready_next was n f within at there = elim (cases_eq n k) [
    | inl same ↦ at_last n f same at
    | inr other ↦
        let below : n < k = omega (arith, within, other) in
        subst (IsRoomOf f (names_known (copies (subject f)) + n)) (sym (get_or_append_left rooms (r ∷ []) None n (omega (arith, below, long)))) (was n f below at there)
  ]

-- as a loop goes on
pub ready_pushed : (rooms more : Rooms) (r : Option EnterRoom) (es : List Effect) (copies : ℕ → Copy) (k : ℕ) (e : Effect) → length rooms ≡ k → k < length es → e ≡ get_or es k e → more ≡ rooms ++ r ∷ [] → IsRoomOf e (names_known (copies (subject e)) + length rooms) r → AreReadyTo k rooms es copies → AreReadyTo (k + 1) more es copies
ready_pushed rooms more r es copies k e long inside is pushed room was =
    subst (λ (xs : Rooms). AreReadyTo (k + 1) xs es copies) (sym pushed)
    (ready_next rooms r es copies k e long inside is (subst (λ n. IsRoomOf e (names_known (copies (subject e)) + n) r) long room) was)

pub ready_for_all : (rooms : Rooms) (es : List Effect) (copies : ℕ → Copy) (k : ℕ) → length es ≤ k → AreReadyTo k rooms es copies → AreReady rooms es copies
ready_for_all rooms es copies k all ready n e inside = ready n e (omega (arith, all, inside))

-- ---- what is known, effect by effect

joined : (k : Knowledge) (es : List Effect) (e : Effect) → with_effects (with_effects k es) (e ∷ []) ≡ with_effects k (es ++ e ∷ [])
joined k es e = λ t. record {
  client = k.client;
  own = k.own;
  copies = sym (known_joined es (e ∷ []) k.copies) t;
  blocks = λ i b. gone i b t;
  granted = k.granted;
}
  where
    gone : (i b : ℕ) → cond (is_among i (touches (e ∷ []))) None (cond (is_among i (touches es)) None (k.blocks i b)) ≡ cond (is_among i (touches (es ++ e ∷ []))) None (k.blocks i b)
    gone i b =
        twice (is_among i (touches es)) (is_among i (touches (e ∷ []))) (k.blocks i b)
        ∙ ap (λ t. cond t None (k.blocks i b)) (sym (touched_joined i es (e ∷ [])))

pub known_none : (k : Knowledge) → k ≡ with_effects k []
known_none k = refl

pub known_next : (k now new : Knowledge) (es : List Effect) (n : ℕ) (e : Effect) → n < length es → e ≡ get_or es n e → now ≡ with_effects k (take n es) → new ≡ with_effects now (e ∷ []) → new ≡ with_effects k (take (n + 1) es)
known_next k now new es n e inside is so_far one =
    one ∙ ap (λ (x : Knowledge). with_effects x (e ∷ [])) so_far ∙ joined k (take n es) e ∙ ap (with_effects k) (sym (taken es n e inside is))

pub known_all : (k new : Knowledge) (es : List Effect) (n : ℕ) → length es ≤ n → new ≡ with_effects k (take n es) → new ≡ with_effects k es
known_all k new es n done is = is ∙ ap (with_effects k) (take_all n es done)
