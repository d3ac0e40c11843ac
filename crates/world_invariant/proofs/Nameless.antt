-- No call gives a name to a file that has none, so no record does.
use Rattle.std.proofs.Common.{◌≡◌, ◌⊎◌, inl, inr, ℕ, ◌+◌, ◌-◌, ◌≤◌, ◌||◌, cond, Bool, true, false, List, [], ◌∷◌, refl, Some, None, Option, Ok, Err, ap, sym, ◌∙◌, subst, arith, ◌==◌}
use Rattle.std.proofs.lemmas.Bool.Decides.{eqb_tells}
use Rattle.posix_calls.specs.Tree.{Own, Descriptors}
use Rattle.posix_calls.specs.Query.{Seen, File, Dir, Query, Gives, Look, ◌>>=◌, View, run}
use Rattle.posix_calls.specs.Walk.{Place, leads_to}
use Rattle.posix_calls.specs.Decide.{open_there, rename_to, write_at, node_description, mkdir, unlink, rmdir, link, rename, exchange_apart, exchange, truncate, pwrite, pread, close, open_path, list_path, stat, decide}
use Rattle.posix_calls.specs.Operations.{makes}
use Rattle.posix_calls.specs.declared.call.Call.{Call}
use Rattle.posix_calls.specs.declared.call.Call.TheVariants as call
use Rattle.posix_calls.specs.declared.call.Flags.{Flags}
use Rattle.posix_calls.specs.declared.call.Reply.TheVariants as replies
use Rattle.posix_calls.specs.declared.errno.Errno.TheVariants as errno
use Rattle.posix_calls.specs.declared.operation.Operation.{Operation}
use Rattle.posix_calls.specs.declared.operation.Operation.TheVariants.{Tell, NewDir, NewFile, OpenFile, CloseFile, Write, Resize, RemoveDir, AddName, DropName, Move, Exchange}
use Rattle.posix_calls.specs.declared.operation.Replaced.TheVariants.{Nothing, OldFile, OldDir}
use Rattle.call_effects.specs.file_graph.Graph.{Graph, Node, FileBody, acted_graph, acted_all, exchanged_entries, child_at, after_effect, after_effects, subject_after, is_among}
use Rattle.call_effects.specs.file_graph.declared.effect.Kind.{Kind}
use Rattle.call_effects.specs.file_graph.declared.effect.Effect.{Effect}
use Rattle.call_effects.specs.file_graph.declared.effect.Effect.TheVariants as effect
use Rattle.call_effects.specs.file_graph.declared.effect.Kind.TheVariants as kind
use Rattle.call_effects.specs.Effects.{stored_count, effects_by, stored_at, recounted_file}
use Rattle.call_effects.specs.Wholes.{IsSound, kind_of, one_if, graph_view}
use Rattle.call_effects.specs.Fits.{IsNew, IsEmptyDir, OperationFits}
use Rattle.call_effects.specs.Knowledge.{Knowledge, Agrees, IsPlanned}
use Rattle.call_effects.proofs.Asked.{bind_ok, given}
use Rattle.call_effects.proofs.Calls.{place_of, there_is}
use Rattle.call_effects.proofs.Changes.{IsFair, fair_of, named, has_name}
use Rattle.call_effects.proofs.Facts.{Leads, named_at}
use Rattle.call_effects.proofs.KnownSteps.{planned_answer}
use Rattle.call_effects.proofs.Steps.{answer_fits}
use Rattle.world_invariant.specs.Logs.{IsNameless}
use Rattle.world_invariant.proofs.Idle.{none_some}

-- ---- effects

-- an effect that leaves a file without a name as one
abbrev Spares : ℕ → Effect → Type 0
Spares i (effect.Make x k) = (x == i) ≡ false
Spares i (effect.Names x n) = ((x == i) ≡ false) ⊎ (n ≡ 0)
Spares i (effect.Drop x) = (x == i) ≡ false
Spares i _ = Unit {0}

abbrev AllSpare : ℕ → List Effect → Type 0
AllSpare i [] = Unit {0}
AllSpare i (e ∷ es) = Spares i e × AllSpare i es

chosen : (b : Bool) (o p : Option Node) → IsNameless o → IsNameless p → IsNameless (cond b o p)
chosen true o p one other = one
chosen false o p one other = other

entered_spares : (g : Graph) (d j : ℕ) (k : Kind) (name : List ℕ) (i : ℕ) → IsNameless (g i) → IsNameless (acted_graph g (effect.Enter d j k name) i)
entered_spares g d j k name i file = chosen (is_among i (d ∷ [])) _ _ (record { bytes = file.bytes; is = ap (subject_after (effect.Enter d j k name)) file.is }) file

exchanged_spares : (g : Graph) (d e : ℕ) (a b : List ℕ) (x y : Option (ℕ × Kind)) (i : ℕ) → IsNameless (g i) → IsNameless (acted_all g (exchanged_entries d a e b x y) i)
exchanged_spares g d e a b (Some x) (Some y) i file = entered_spares (acted_graph g (effect.Enter d y.0 y.1 a)) e x.0 x.1 b i (entered_spares g d y.0 y.1 a i file)
exchanged_spares g d e a b (Some x) None i file = file
exchanged_spares g d e a b None y i file = file

one_spares : (g : Graph) (e : Effect) (i : ℕ) → Spares i e → IsNameless (g i) → IsNameless (after_effect g e i)
one_spares g (effect.Make x k) i off file = record { bytes = file.bytes; is = ap (λ b. cond (b || false) (subject_after (effect.Make x k) (g i)) (g i)) off ∙ file.is }
one_spares g (effect.Enter x j k name) i off file = entered_spares g x j k name i file
one_spares g (effect.Leave x name) i off file = chosen (is_among i (x ∷ [])) _ _ (record { bytes = file.bytes; is = ap (subject_after (effect.Leave x name)) file.is }) file
one_spares g (effect.Names x n) i (inl off) file = record { bytes = file.bytes; is = ap (λ b. cond (b || false) (subject_after (effect.Names x n) (g i)) (g i)) off ∙ file.is }
one_spares g (effect.Names x n) i (inr zero) file = chosen (is_among i (x ∷ [])) _ _ (record { bytes = file.bytes; is = ap (subject_after (effect.Names x n)) file.is ∙ ap (λ m. Some (record { names = m; body = FileBody file.bytes })) zero }) file
one_spares g (effect.Size x size) i off file = chosen (is_among i (x ∷ [])) _ _ (record { bytes = _; is = ap (subject_after (effect.Size x size)) file.is }) file
one_spares g (effect.Bytes x at new) i off file = chosen (is_among i (x ∷ [])) _ _ (record { bytes = _; is = ap (subject_after (effect.Bytes x at new)) file.is }) file
one_spares g (effect.Drop x) i off file = record { bytes = file.bytes; is = ap (λ b. cond (b || false) (subject_after (effect.Drop x) (g i)) (g i)) off ∙ file.is }
one_spares g (effect.Swap x a y b) i off file = exchanged_spares g x y a b (child_at g x a) (child_at g y b) i file

all_spare : (g : Graph) (es : List Effect) (i : ℕ) → AllSpare i es → IsNameless (g i) → IsNameless (after_effects g es i)
all_spare g [] i spare file = file
all_spare g (e ∷ es) i spare file = all_spare (after_effect g e) es i spare.1 (one_spares g e i spare.0 file)

-- ---- calls

-- an operation that gives one more name only to what has one
abbrev NamesNamed : Graph → Operation → Type 0
NamesNamed g (AddName at i) = IsNameless (g i) → ⊥
NamesNamed g _ = Unit {0}

-- what has an entry, and the root, is no file without a name
reached_named : (g : Graph) (d : Descriptors) (names : List (List ℕ)) (place : Place) (i : ℕ) → IsFair g d → Leads g names place → place.inode ≡ Some i → IsNameless (g i) → ⊥
reached_named g d names place i fair (inl end) is file =
    let one : Some 1 ≡ Some i = sym (ap (λ (p : Place). p.inode) end.1) ∙ is in
    let same : 1 ≡ i = cc in
    let clash : Some kind.Directory ≡ Some kind.File = sym fair.typed.root ∙ ap (λ j. kind_of (g j)) same ∙ ap kind_of file.is in
    cc
reached_named g d names place i fair (inr at) is file =
    let node = named_at g d place i fair at is in
    let range = fair.typed.numbers place.location.parent kind.Directory (ap kind_of node.entry.is) in
    let one : 1 ≤ named g i = has_name g place.location.parent node.entry.names place.location.name node.entry.entries (i, node.kind) node.entry.is range.0 range.1 node.entry.there in
    let count : 0 ≡ named g i + one_if (i == 1) = sym (ap stored_count file.is) ∙ fair.counted i in
    absurd (omega (arith, one, count))

module _ (g : Graph) (d : Descriptors) where
  abbrev v : View
  v = graph_view g d

  abbrev Comes : Query Operation → Type 0
  Comes q = (operation : Operation) → run v q ≡ Ok operation → NamesNamed g operation

  on : {A : Type 0} (q : Query A) (f : A → Query Operation) → ((x : A) → Comes (f x)) → Comes (q >>= f)
  on q f rest operation e = let r = bind_ok v q f operation e in rest r.0 operation r.2

  comes : (x : Operation) → NamesNamed g x → Comes (Gives x)
  comes x fine operation e = subst (NamesNamed g) (given v e) fine

  open_there_names : (place : Place) (number : ℕ) (f : Flags) (o : Option ℕ) → Comes (open_there place number f o)
  open_there_names place number f (Some i) = on _ _ (λ empty. comes _ tt)
  open_there_names place number f None = on _ _ (λ _. on _ _ (λ _. comes _ tt))

  open_names : (own : Own) (path : List ℕ) (f : Flags) → Comes (open_path own path f)
  unfolding open_path
  open_names own path f = on _ _ (λ names. on _ _ (λ _. on _ _ (λ number. on _ _ (λ place. on _ _ (λ _. on _ _ (λ is_dir. on _ _ (λ _. open_there_names place number f place.inode)))))))

  close_names : (own : Own) (number : ℕ) → Comes (close own number)
  unfolding close
  close_names own number = on _ _ (λ i. comes _ tt)

  pread_names : (own : Own) (number at count : ℕ) → Comes (pread own number at count)
  unfolding pread
  pread_names own number at count = on _ _ (λ i. on _ _ (λ _. on _ _ (λ size. on _ _ (λ bytes. comes _ tt))))

  write_names : (i at : ℕ) (bytes : List ℕ) → Comes (write_at i at bytes)
  write_names i at [] = comes _ tt
  write_names i at (b ∷ bytes) = on _ _ (λ _. comes _ tt)

  pwrite_names : (own : Own) (number at : ℕ) (bytes : List ℕ) → Comes (pwrite own number at bytes)
  unfolding pwrite
  pwrite_names own number at bytes = on _ _ (λ i. on _ _ (λ _. write_names i at bytes))

  truncate_names : (path : List ℕ) (len : ℕ) → Comes (truncate path len)
  unfolding truncate
  truncate_names path len =
      on _ _ (λ names. on _ _ (λ place. on _ _ (λ i. on _ _ (λ is_dir. on _ _ (λ _. on _ _ (λ _. on _ _ (λ size. comes _ (elim (size == len) as (λ b. NamesNamed g (cond b (Tell replies.Done) (Resize i len))) [ true ↦ tt | false ↦ tt ]))))))))

  mkdir_names : (path : List ℕ) → Comes (mkdir path)
  unfolding mkdir
  mkdir_names path = on _ _ (λ names. on _ _ (λ place. on _ _ (λ _. on _ _ (λ _. comes _ tt))))

  rmdir_names : (path : List ℕ) → Comes (rmdir path)
  unfolding rmdir
  rmdir_names path = on _ _ (λ names. on _ _ (λ _. on _ _ (λ place. on _ _ (λ i. on _ _ (λ is_dir. on _ _ (λ _. on _ _ (λ entries. on _ _ (λ _. comes _ tt))))))))

  unlink_names : (path : List ℕ) → Comes (unlink path)
  unfolding unlink
  unlink_names path = on _ _ (λ names. on _ _ (λ _. on _ _ (λ place. on _ _ (λ i. on _ _ (λ is_dir. on _ _ (λ _. comes _ tt))))))

  link_names : (old new : List ℕ) → IsFair g d → Comes (link old new)
  unfolding link
  link_names old new fair operation e =
      let old_names = bind_ok v _ _ _ e in
      let new_names = bind_ok v _ _ _ old_names.2 in
      let from = bind_ok v _ _ _ new_names.2 in
      let i = bind_ok v _ _ _ from.2 in
      on _ _ (λ is_dir. on _ _ (λ _. on _ _ (λ to. on _ _ (λ _. on _ _ (λ names. on _ _ (λ _. on _ _ (λ _. comes _
      (reached_named g d old_names.0 from.0 i.0 fair (place_of g d old_names.0 from.0 fair from.1) (there_is v from.0.inode i.0 i.1))))))))) operation i.2

  rename_names : (old new : List ℕ) → Comes (rename old new)
  unfolding rename
  rename_names old new = on _ _ (λ old_names. on _ _ (λ new_names. on _ _ (λ _. on _ _ (λ from. on _ _ (λ i. on _ _ (λ to. on _ _ (λ _. moves from to i (leads_to i to.inode))))))))
    where
      moves : (from to : Place) (i : ℕ) (same : Bool) → Comes (cond same (Gives (Tell replies.Done)) (rename_to from to i))
      moves from to i true = comes _ tt
      moves from to i false = on _ _ (λ old_dir. on _ _ (λ replaced. comes _ tt))

  exchange_names : (first second : List ℕ) → Comes (exchange first second)
  unfolding exchange
  exchange_names first second = on _ _ (λ first_names. on _ _ (λ second_names. on _ _ (λ _. on _ _ (λ one. on _ _ (λ i. on _ _ (λ two. on _ _ (λ j. swaps one two i j (i == j))))))))
    where
      swaps : (one two : Place) (i j : ℕ) (same : Bool) → Comes (cond same (Gives (Tell replies.Done)) (exchange_apart one two i j))
      swaps one two i j true = comes _ tt
      swaps one two i j false = on _ _ (λ _. comes _ tt)

  list_names : (path : List ℕ) → Comes (list_path path)
  unfolding list_path
  list_names path = on _ _ (λ names. on _ _ (λ place. on _ _ (λ i. on _ _ (λ is_dir. on _ _ (λ _. on _ _ (λ entries. comes _ tt))))))

  described_names : (s : Option Seen) → Comes (node_description s)
  unfolding run
  described_names None operation e = absurd (cc)
  described_names (Some (File names size)) operation e = comes _ tt operation e
  described_names (Some (Dir entries)) operation e = comes _ tt operation e

  looked_names : (i : ℕ) → Comes (Look i node_description)
  unfolding run
  looked_names i = described_names (v.node i)

  stat_names : (path : List ℕ) → Comes (stat path)
  unfolding stat
  stat_names path = on _ _ (λ names. on _ _ (λ place. on _ _ (λ i. looked_names i)))

  decide_names : (own : Own) (c : Call) → IsFair g d → Comes (decide own c)
  decide_names own (call.Open path flags) fair = open_names own path flags
  decide_names own (call.Close number) fair = close_names own number
  decide_names own (call.Pread number at count) fair = pread_names own number at count
  decide_names own (call.Pwrite number at bytes) fair = pwrite_names own number at bytes
  decide_names own (call.Truncate path len) fair = truncate_names path len
  decide_names own (call.Mkdir path) fair = mkdir_names path
  decide_names own (call.Rmdir path) fair = rmdir_names path
  decide_names own (call.Link old new) fair = link_names old new fair
  decide_names own (call.Unlink path) fair = unlink_names path
  decide_names own (call.Rename old new) fair = rename_names old new
  decide_names own (call.Exchange first second) fair = exchange_names first second
  decide_names own (call.List path) fair = list_names path
  decide_names own (call.Stat path) fair = stat_names path

  -- ---- an operation's effects

  module _ (i : ℕ) (file : IsNameless (g i)) where
    not_here : (x : ℕ) → (IsNameless (g x) → ⊥) → (x == i) ≡ false
    not_here x other = elim (eqb_tells x i) [
      | inl same ↦ absurd (other (record { bytes = file.bytes; is = ap g same.1 ∙ file.is }))
      | inr off ↦ off.0
    ]

    is_none : (x : ℕ) → g x ≡ None → IsNameless (g x) → ⊥
    is_none x none other = none_some (record { names = 0; body = FileBody other.bytes }) (sym none ∙ other.is)

    is_dir : (x : ℕ) → IsEmptyDir g x → IsNameless (g x) → ⊥
    is_dir x dir other = let clash : Some kind.Directory ≡ Some kind.File = sym (ap kind_of dir.is) ∙ ap kind_of other.is in cc

    -- one name fewer than none is none
    fewer : (x : ℕ) → ((x == i) ≡ false) ⊎ (stored_count (g x) - 1 ≡ 0)
    fewer x = elim (eqb_tells x i) [
      | inl same ↦ let none : stored_count (g x) ≡ 0 = ap (λ y. stored_count (g y)) same.1 ∙ ap stored_count file.is in inr (omega (arith, none))
      | inr off ↦ inl off.0
    ]

    spared : (own : Own) (new : ℕ) (operation : Operation) → OperationFits g d own operation → (makes operation ≡ true → IsNew g new) → NamesNamed g operation → AllSpare i (effects_by (stored_at g (recounted_file operation)) new operation)
    spared own new (Tell answer) fits free fine = tt
    spared own new (NewDir at) fits free fine = let off = not_here new (is_none new ((free refl).none)) in (off, (tt, (inl off, tt)))
    spared own new (NewFile at number r w) fits free fine = let off = not_here new (is_none new ((free refl).none)) in (off, (tt, (inl off, tt)))
    spared own new (OpenFile x true number r w) fits free fine = (tt, tt)
    spared own new (OpenFile x false number r w) fits free fine = tt
    spared own new (CloseFile x number) fits free fine = tt
    spared own new (Write x at bytes) fits free fine = (tt, tt)
    spared own new (Resize x len) fits free fine = (tt, tt)
    spared own new (RemoveDir at x) fits free fine = (tt, (not_here x (is_dir x fits.1), tt))
    spared own new (AddName at x) fits free fine = (tt, (inl (not_here x fine), tt))
    spared own new (DropName at x) fits free fine = (tt, (fewer x, tt))
    spared own new (Move from to x is_dir_moved Nothing) fits free fine = (tt, (tt, tt))
    spared own new (Move from to x is_dir_moved (OldFile j)) fits free fine = (tt, (fewer j, (tt, (tt, tt))))
    spared own new (Move from to x is_dir_moved (OldDir j)) fits free fine = (tt, (not_here j (is_dir j fits.2.2), (tt, (tt, tt))))
    spared own new (Exchange first second x j) fits free fine = (tt, tt)

-- a planned call gives no name to a file that has none
pub planned_names_none : (k : Knowledge) (g : Graph) (d : Descriptors) (c : Call) (new : ℕ) (operation : Operation) (es : List Effect) → IsSound g d → Agrees k g d → IsPlanned k c new operation es → (i : ℕ) → IsNameless (g i) → IsNameless (after_effects g es i)
planned_names_none k g d c new operation es sound agrees plan i file =
    let a = planned_answer k g d c new operation es sound agrees plan in
    let comes = sym (ap (λ b. cond b (run (graph_view g d) (decide (d k.client) c)) (Err errno.Invalid)) agrees.client) ∙ a.0 in
    let spare = spared g d i file (d k.client) new operation (answer_fits g d k.client c operation sound a.0) (λ m. agrees.granted new (plan.number m)) (decide_names g d (d k.client) c (fair_of g d sound) operation comes) in
    subst (λ es. IsNameless (after_effects g es i)) a.1 (all_spare g (effects_by (stored_at g (recounted_file operation)) new operation) i spare file)
