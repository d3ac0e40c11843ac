-- What clients know after a call of one of them agrees with the whole again.
use Rattle.std.proofs.Common.{◌≡◌, ◌≢◌, ◌⊎◌, inl, inr, ℕ, List, [], ◌∷◌, refl, Some, None, Option, cond, ap, sym, ◌∙◌, subst, true, false, Bool, ◌==◌}
use Rattle.std.specs.Prelude.{option_map, is_some, ◌&&◌, ◌||◌, not}
use Rattle.std.specs.FinMap as fin
use Rattle.std.proofs.lemmas.Bool.{eq-eqb}
use Rattle.std.proofs.lemmas.Bool.Decides.{eqb_tells}
use Rattle.posix_calls.specs.Tree.{Own, Descriptors, with_own}
use Rattle.posix_calls.specs.declared.operation.Location.{Location}
use Rattle.posix_calls.specs.Operations.{makes, own_after}
use Rattle.posix_calls.specs.declared.operation.Operation.{Operation}
use Rattle.posix_calls.specs.declared.operation.Operation.TheVariants.{Tell, NewDir, NewFile, OpenFile, CloseFile, Write, Resize, RemoveDir, AddName, DropName, Move, Exchange}
use Rattle.posix_calls.specs.declared.operation.Replaced.TheVariants.{Nothing, OldFile, OldDir}
use Rattle.posix_calls.specs.declared.call.Call.{Call}
use Rattle.log_record.specs.file_graph.Graph.{Graph, Node, is_among, subject_after, acted_graph, acted_all, exchanged_entries, child_at, after_effect, after_effects, touches, subjects, swapped_directories, directory_in, file_bytes}
use Rattle.log_record.specs.file_graph.declared.effect.Kind.{Kind}
use Rattle.log_record.specs.file_graph.declared.effect.Kind.TheVariants as kind
use Rattle.log_record.specs.file_graph.declared.effect.Effect.{Effect}
use Rattle.log_record.specs.file_graph.declared.effect.Effect.TheVariants as effect
use Rattle.log_record.proofs.file_graph_lemmas.Touches.{untouched, acted_alone, local_by_directories}
use Rattle.call_effects.specs.Effects.{effects_by, effects_of, make_effects, stored_at, recounted_file}
use Rattle.call_effects.specs.Wholes.{IsSound}
use Rattle.call_effects.specs.Blocks.{block_of}
use Rattle.call_effects.specs.NodeView.{NodeView, view_at, view_of_node, view_acted, view_after, empty_view, in_entries}
use Rattle.call_effects.specs.Fits.{OperationFits, IsNew, IsRoom, IsEntry, IsUsedFile}
use Rattle.call_effects.specs.Knowledge.{Knowledge, Agrees, IsGone, IsPutBack, IsPlanned, knows_after, knows_made, with_copy}
use Rattle.call_effects.proofs.KnownCopies.{seen_after}
use Rattle.call_effects.proofs.KnownSwaps.{planned_swaps}
use Rattle.call_effects.proofs.KnownTold.{both_hold}
use Rattle.call_effects.proofs.KnownSteps.{planned_answer}
use Rattle.call_effects.proofs.Served.{copy_agrees}
use Rattle.call_effects.proofs.Steps.{answer_fits}
use Rattle.call_effects.proofs.NodeViews.{viewed_after, block_known_after}

or_false : (b : Bool) → b ≡ false → (b || false) ≡ false
or_false b e = ap (λ x. x || false) e

-- ---- a number that no effect makes a node of stays free

abbrev MakesNot : ℕ → Effect → Type 0
MakesNot i (effect.Make x k) = (x == i) ≡ false
MakesNot i _ = Unit {0}

abbrev NoneMakes : ℕ → List Effect → Type 0
NoneMakes i [] = Unit {0}
NoneMakes i (e ∷ es) = MakesNot i e × NoneMakes i es

cond_same : (b : Bool) (o : Option Node) → cond b o o ≡ o
cond_same true o = refl
cond_same false o = refl

nothing_acted : (g : Graph) (e : Effect) (i : ℕ) → g i ≡ None → subject_after e None ≡ None → acted_graph g e i ≡ None
nothing_acted g e i none stays = ap (λ o. cond (is_among i (subjects e)) (subject_after e o) o) none ∙ ap (λ o. cond (is_among i (subjects e)) o None) stays ∙ cond_same (is_among i (subjects e)) None

nothing_exchanged : (g : Graph) (d : ℕ) (a : List ℕ) (e : ℕ) (b : List ℕ) (x y : Option (ℕ × Kind)) (i : ℕ) → g i ≡ None → acted_all g (exchanged_entries d a e b x y) i ≡ None
nothing_exchanged g d a e b (Some x) (Some y) i none = nothing_acted (acted_graph g (effect.Enter d y.0 y.1 a)) (effect.Enter e x.0 x.1 b) i (nothing_acted g (effect.Enter d y.0 y.1 a) i none refl) refl
nothing_exchanged g d a e b (Some x) None i none = none
nothing_exchanged g d a e b None y i none = none

none_after : (g : Graph) (e : Effect) (i : ℕ) → g i ≡ None → MakesNot i e → after_effect g e i ≡ None
none_after g (effect.Make x k) i none apart = ap (λ b. cond b (subject_after (effect.Make x k) (g i)) (g i)) (or_false (x == i) apart) ∙ none
none_after g (effect.Swap d a e b) i none apart = nothing_exchanged g d a e b (child_at g d a) (child_at g e b) i none
none_after g e i none apart = nothing_acted g e i none refl

stays_none : (g : Graph) (es : List Effect) (i : ℕ) → g i ≡ None → NoneMakes i es → after_effects g es i ≡ None
stays_none g [] i none apart = none
stays_none g (e ∷ es) i none apart = stays_none (after_effect g e) es i (none_after g e i none apart.0) apart.1

-- an operation makes a node of its new number alone
operation_makes : (names new i : ℕ) (operation : Operation) → (makes operation ≡ true → (new == i) ≡ false) → NoneMakes i (effects_by names new operation)
operation_makes names new i (Tell answer) apart = tt
operation_makes names new i (NewDir at) apart = (apart refl, (tt, (tt, tt)))
operation_makes names new i (NewFile at number reads writes) apart = (apart refl, (tt, (tt, tt)))
operation_makes names new i (OpenFile x true number reads writes) apart = (tt, tt)
operation_makes names new i (OpenFile x false number reads writes) apart = tt
operation_makes names new i (CloseFile x number) apart = tt
operation_makes names new i (Write x at bytes) apart = (tt, tt)
operation_makes names new i (Resize x len) apart = (tt, tt)
operation_makes names new i (RemoveDir at x) apart = (tt, (tt, tt))
operation_makes names new i (AddName at x) apart = (tt, (tt, tt))
operation_makes names new i (DropName at x) apart = (tt, (tt, tt))
operation_makes names new i (Move from to x is_dir Nothing) apart = (tt, (tt, tt))
operation_makes names new i (Move from to x is_dir (OldFile j)) apart = (tt, (tt, (tt, (tt, tt))))
operation_makes names new i (Move from to x is_dir (OldDir j)) apart = (tt, (tt, (tt, (tt, tt))))
operation_makes names new i (Exchange first second x y) apart = (tt, tt)

new_stays : (g : Graph) (new i : ℕ) (operation : Operation) (es : List Effect) → effects_of g new operation ≡ es → (makes operation ≡ true → (new == i) ≡ false) → IsNew g i → IsNew (after_effects g es) i
new_stays g new i operation es is apart free = record {
  low = free.low;
  high = free.high;
  none = stays_none g es i free.none (subst (NoneMakes i) is (operation_makes (stored_at g (recounted_file operation)) new i operation apart));
}

-- ---- what effects touch stands in the whole, but for a new node

abbrev Each : List ℕ → (ℕ → Type 0) → Type 0
Each [] P = Unit {0}
Each (i ∷ is) P = P i × Each is P

among_each : (P : ℕ → Type 0) (is : List ℕ) (i : ℕ) → Each is P → is_among i is ≡ true → P i
among_each P [] i all e = absurd (cc)
among_each P (j ∷ is) i (here, rest) e = elim (eqb_tells j i) [
  | inl same ↦ subst P same.1 here
  | inr off ↦ among_each P is i rest (sym (ap (λ b. b || is_among i is) off.0) ∙ e)
]

module _ (g : Graph) (d : Descriptors) (own : Own) (new : ℕ) where
  -- where nothing stands, a node is made
  abbrev IsMade : Operation → ℕ → Type 0
  IsMade operation i = g i ≡ None → (makes operation ≡ true) × (i ≡ new)

  stands : (operation : Operation) (i : ℕ) (n : Node) → g i ≡ Some n → IsMade operation i
  stands operation i n is none = absurd (let clash : None ≡ Some n = sym none ∙ is in cc)

  of_room : (operation : Operation) (at : Location) → IsRoom g at → IsMade operation at.parent
  of_room operation at room = stands operation at.parent _ room.is

  of_entry : (operation : Operation) (at : Location) (e : ℕ × Kind) → IsEntry g at e → IsMade operation at.parent
  of_entry operation at e entry = stands operation at.parent _ entry.is

  of_file : (operation : Operation) (i : ℕ) → IsUsedFile g d i → IsMade operation i
  of_file operation i f = stands operation i _ f.is

  touched_stands : (operation : Operation) → OperationFits g d own operation → Each (touches (effects_of g new operation)) (IsMade operation)
  touched_stands (Tell answer) fits = tt
  touched_stands (NewDir at) room = ((λ none. (refl, refl)), (of_room (NewDir at) at room, ((λ none. (refl, refl)), tt)))
  touched_stands (NewFile at number reads writes) fits = ((λ none. (refl, refl)), (of_room (NewFile at number reads writes) at fits.0, ((λ none. (refl, refl)), tt)))
  touched_stands (OpenFile i true number reads writes) fits = (of_file (OpenFile i true number reads writes) i fits.0, tt)
  touched_stands (OpenFile i false number reads writes) fits = tt
  touched_stands (CloseFile i number) fits = tt
  touched_stands (Write i at bytes) f = (of_file (Write i at bytes) i f, tt)
  touched_stands (Resize i len) f = (of_file (Resize i len) i f, tt)
  touched_stands (RemoveDir at i) fits = (of_entry (RemoveDir at i) at _ fits.0, (stands (RemoveDir at i) i _ fits.1.is, tt))
  touched_stands (AddName at i) fits = (of_room (AddName at i) at fits.0, (of_file (AddName at i) i fits.1, tt))
  touched_stands (DropName at i) fits = (of_entry (DropName at i) at _ fits.0, (of_file (DropName at i) i fits.1, tt))
  touched_stands (Move from to i is_dir Nothing) fits = let o = Move from to i is_dir Nothing in (of_entry o from _ fits.0, (of_room o to fits.2, tt))
  touched_stands (Move from to i is_dir (OldFile j)) (entry, clear, old) = let o = Move from to i is_dir (OldFile j) in (of_entry o to _ old.1, (of_file o j old.2, (of_entry o from _ entry, (of_entry o to _ old.1, tt))))
  touched_stands (Move from to i is_dir (OldDir j)) (entry, clear, old) = let o = Move from to i is_dir (OldDir j) in (of_entry o to _ old.1, (stands o j _ old.2.is, (of_entry o from _ entry, (of_entry o to _ old.1, tt))))
  touched_stands (Exchange first second i j) fits = let o = Exchange first second i j in (of_entry o first _ fits.first_is, (of_entry o second _ fits.second_is, tt))

-- a new node is the same whatever stood there, and no Swap is among the effects that make it
made_alike : (g h : Graph) (new : ℕ) (k : Kind) (at : Location) → after_effects g (make_effects new k at) new ≡ after_effects h (make_effects new k at) new
made_alike g h new k at =
    let make = effect.Make new k in
    let here = λ (f : Graph). let made : acted_graph f make new ≡ subject_after make None = ap (λ b. cond (b || false) (subject_after make None) (f new)) (eq-eqb new new refl) in made in
    acted_alone (acted_graph g make) (acted_graph h make) (effect.Enter at.parent new k at.name ∷ effect.Names new 1 ∷ []) new (here g ∙ sym (here h))

abbrev IsMadeAlike : Graph → Graph → ℕ → List Effect → Type 0
IsMadeAlike g h new es = (after_effects g es new ≡ after_effects h es new) × (is_among new (swapped_directories es) ≡ false)

new_alike : (g h : Graph) (names new : ℕ) (operation : Operation) → makes operation ≡ true → IsMadeAlike g h new (effects_by names new operation)
new_alike g h names new (NewDir at) e = (made_alike g h new kind.Directory at, refl)
new_alike g h names new (NewFile at number reads writes) e = (made_alike g h new kind.File at, refl)
new_alike g h names new (Tell answer) e = absurd (cc)
new_alike g h names new (OpenFile i empties number reads writes) e = absurd (cc)
new_alike g h names new (CloseFile i number) e = absurd (cc)
new_alike g h names new (Write i at bytes) e = absurd (cc)
new_alike g h names new (Resize i len) e = absurd (cc)
new_alike g h names new (RemoveDir at i) e = absurd (cc)
new_alike g h names new (AddName at i) e = absurd (cc)
new_alike g h names new (DropName at i) e = absurd (cc)
new_alike g h names new (Move from to i is_dir replaced) e = absurd (cc)
new_alike g h names new (Exchange first second i j) e = absurd (cc)

-- a view stays through what is entered, and through a count
some_after : (d new : ℕ) (kd : Kind) (name : List ℕ) (o : Option NodeView) → is_some o ≡ true → is_some (view_after (effect.Enter d new kd name ∷ effect.Names new 1 ∷ []) new o) ≡ true
some_after d new kd name None e = absurd (cc)
some_after d new kd name (Some v) e = counted (is_among new (subjects (effect.Enter d new kd name))) where
  named : (c : Bool) (w : NodeView) → is_some (cond c (view_acted (effect.Names new 1) (Some w)) (Some w)) ≡ true
  named true w = refl
  named false w = refl

  counted : (b : Bool) → is_some (view_after (effect.Names new 1 ∷ []) new (cond b (view_acted (effect.Enter d new kd name) (Some v)) (Some v))) ≡ true
  counted true = named (is_among new (subjects (effect.Names new 1))) (in_entries (λ es. fin.insert es name (new, kd)) v)
  counted false = named (is_among new (subjects (effect.Names new 1))) v

made_first : (new : ℕ) (kd : Kind) (at : Location) → is_some (view_after (make_effects new kd at) new None) ≡ true
made_first new kd at = ap (λ b. is_some (view_after (effect.Enter at.parent new kd at.name ∷ effect.Names new 1 ∷ []) new (cond b (Some (empty_view kd)) None))) (among_itself new) ∙ some_after at.parent new kd at.name (Some (empty_view kd)) refl
  where
    among_itself : (i : ℕ) → is_among i (i ∷ []) ≡ true
    among_itself i = ap (λ b. b || false) (eq-eqb i i refl)

-- the effects that make a node leave one there
made_view : (names new : ℕ) (operation : Operation) → makes operation ≡ true → is_some (view_after (effects_by names new operation) new None) ≡ true
made_view names new (NewDir at) m = made_first new kind.Directory at
made_view names new (NewFile at number reads writes) m = made_first new kind.File at
made_view names new (Tell answer) m = absurd (cc)
made_view names new (OpenFile i empties number reads writes) m = absurd (cc)
made_view names new (CloseFile i number) m = absurd (cc)
made_view names new (Write i at bytes) m = absurd (cc)
made_view names new (Resize i len) m = absurd (cc)
made_view names new (RemoveDir at i) m = absurd (cc)
made_view names new (AddName at i) m = absurd (cc)
made_view names new (DropName at i) m = absurd (cc)
made_view names new (Move from to i is_dir replaced) m = absurd (cc)
made_view names new (Exchange first second i j) m = absurd (cc)

-- ---- one's own knowledge

-- a number that is left is not the new one
is_other : (m : Bool) (i new : ℕ) → not (m && i == new) ≡ true → m ≡ true → (new == i) ≡ false
is_other false i new e m = absurd (cc)
is_other true i new e m = elim (eqb_tells new i) [
  | inl same ↦ absurd (let clash : false ≡ true = sym (ap not (eq-eqb i new (sym same.1))) ∙ e in cc)
  | inr off ↦ off.0
]

module _ (k : Knowledge) (g : Graph) (d : Descriptors) (c : Call) (new : ℕ) (operation : Operation) (es : List Effect) (sound : IsSound g d) (agrees : Agrees k g d) (plan : IsPlanned k c new operation es) where
  effects_are_those : effects_of g new operation ≡ es
  effects_are_those = (planned_answer k g d c new operation es sound agrees plan).1

  -- where nothing stands in the whole and the effects touch, they make the new node
  made_there : (i : ℕ) → g i ≡ None → is_among i (touches es) ≡ true → (makes operation ≡ true) × (i ≡ new)
  made_there i none touched =
      let fits = answer_fits g d k.client c operation sound (planned_answer k g d c new operation es sound agrees plan).0 in
      among_each (IsMade g d (d k.client) new operation) (touches es) i (subst (λ es. Each (touches es) (IsMade g d (d k.client) new operation)) effects_are_those (touched_stands g d (d k.client) new operation fits)) touched none

  new_same : (h : Graph) → makes operation ≡ true → IsMadeAlike h g new es
  new_same h m = subst (IsMadeAlike h g new) effects_are_those (new_alike h g (stored_at g (recounted_file operation)) new operation m)

  -- the same directories stand where files are put back
  directory_back : (j : ℕ) → directory_in (agrees.back j) ≡ directory_in (g j)
  directory_back j = elim (agrees.put_back j) [
    | inl same ↦ ap directory_in same
    | inr gone ↦ ap directory_in gone.file ∙ sym (ap directory_in gone.nothing)
  ]

  -- the files that were put back are put back still
  put_back_after : IsPutBack (after_effects g es) (after_effects agrees.back es)
  put_back_after i = elim (agrees.put_back i) [
    | inl same ↦ inl (local_by_directories agrees.back g es (λ j touched. directory_back j) i same)
    | inr gone ↦ elim (is_among i (touches es)) as (λ b. is_among i (touches es) ≡ b → (after_effects agrees.back es i ≡ after_effects g es i) ⊎ IsGone (after_effects g es i) (after_effects agrees.back es i)) [
      | true ↦ λ touched.
          let m = made_there i gone.nothing touched in
          inl (subst (λ j. after_effects agrees.back es j ≡ after_effects g es j) (sym m.1) (new_same agrees.back m.0).0)
      | false ↦ λ apart. inr (record { nothing = untouched g es i apart ∙ gone.nothing; bytes = gone.bytes; file = untouched agrees.back es i apart ∙ gone.file })
    ] refl
  ]

  pub agrees_after : Agrees (knows_after k new operation es) (after_effects g es) (with_own d k.client (own_after new k.own operation))
  agrees_after = record {
    client = agrees.client;
    own = λ number. ap (λ b. cond b (own_after new k.own operation number) (d k.client number)) (eq-eqb k.client k.client refl);
    back = after_effects agrees.back es;
    put_back = put_back_after;
    copies = seen_after es k.copies agrees.back agrees.copies (planned_swaps k c new operation es plan);
    blocks = λ i b bytes is. block_known_after agrees.back es i b (k.blocks i b) bytes (agrees.blocks i b) is;
    granted = λ i is.
        let r = both_hold (k.granted i) (not (makes operation && i == new)) is in
        new_stays g new i operation es effects_are_those (is_other (makes operation) i new r.1) (agrees.granted i r.0);
  }

  -- ---- another's knowledge

  not_new : (other : Knowledge) → (makes operation ≡ true → other.granted new ≡ false) → (i : ℕ) → other.granted i ≡ true → makes operation ≡ true → (new == i) ≡ false
  not_new other apart i is m = elim (eqb_tells new i) [
    | inl same ↦ absurd (let clash : true ≡ false = sym is ∙ ap other.granted (sym same.1) ∙ apart m in cc)
    | inr off ↦ off.0
  ]

  -- what the effects touch stands as it does in the whole, the rest as it did
  abbrev also_back : Graph → Graph
  also_back back i = cond (is_among i (touches es)) (after_effects g es i) (back i)

  also_put_back : (back : Graph) → IsPutBack g back → IsPutBack (after_effects g es) (also_back back)
  also_put_back back put_back i = elim (is_among i (touches es)) as (λ b. is_among i (touches es) ≡ b → (cond b (after_effects g es i) (back i) ≡ after_effects g es i) ⊎ IsGone (after_effects g es i) (cond b (after_effects g es i) (back i))) [
    | true ↦ λ touched. inl refl
    | false ↦ λ apart. elim (put_back i) [
      | inl same ↦ inl (same ∙ sym (untouched g es i apart))
      | inr gone ↦ inr (record { nothing = untouched g es i apart ∙ gone.nothing; bytes = gone.bytes; file = gone.file })
    ]
  ] refl

  pub other_agrees : (other : Knowledge) → Agrees other g d → other.client ≢ k.client → ((i : ℕ) (copy : Option NodeView) → other.copies i ≡ Some copy → is_among i (touches es) ≡ false) → ((i b : ℕ) (bytes : List ℕ) → other.blocks i b ≡ Some bytes → is_among i (touches es) ≡ false) → (makes operation ≡ true → other.granted new ≡ false) → Agrees other (after_effects g es) (with_own d k.client (own_after new k.own operation))
  other_agrees other known apart copies blocks numbers = record {
    client = known.client;
    own = λ number. elim (eqb_tells other.client k.client) [
      | inl same ↦ absurd (apart same.1)
      | inr off ↦ ap (λ b. cond b (own_after new k.own operation number) (d other.client number)) off.0 ∙ known.own number
    ];
    back = also_back known.back;
    put_back = also_put_back known.back known.put_back;
    copies = λ i copy is. ap (λ b. option_map view_of_node (cond b (after_effects g es i) (known.back i))) (copies i copy is) ∙ known.copies i copy is;
    blocks = λ i b bytes is. ap (λ t. option_map (block_of b) (file_bytes (cond t (after_effects g es i) (known.back i)))) (blocks i b bytes is) ∙ known.blocks i b bytes is;
    granted = λ i is. new_stays g new i operation es effects_are_those (not_new other numbers i is) (known.granted i is);
  }

  -- ---- a copy of the new node

  abbrev after : Knowledge
  after = knows_after k new operation es

  -- nothing stands at its number before, and something after
  pub made_agrees : makes operation ≡ true → Agrees (knows_made k new operation es) (after_effects g es) (with_own d k.client (own_after new k.own operation))
  made_agrees m =
      let none = (agrees.granted new (plan.number m)).none in
      let seen : view_at (after_effects g es) new ≡ view_after es new None = viewed_after g es new (new_same g m).1 ∙ ap (λ o. view_after es new (option_map view_of_node o)) none in
      let stands : is_some (view_after es new None) ≡ true = subst (λ (fs : List Effect). is_some (view_after fs new None) ≡ true) effects_are_those (made_view (stored_at g (recounted_file operation)) new operation m) in
      subst (λ copy. Agrees (with_copy after new copy) (after_effects g es) (with_own d k.client (own_after new k.own operation))) seen
      (copy_agrees after (after_effects g es) (with_own d k.client (own_after new k.own operation)) agrees_after new (λ gone. absurd (let clash : false ≡ true = sym (ap is_some (sym seen ∙ ap (option_map view_of_node) gone)) ∙ stands in cc)))
