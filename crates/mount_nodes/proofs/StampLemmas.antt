-- What one change makes of all stamps.
use Rattle.std.proofs.Common.{◌≡◌, ◌≢◌, ◌⊎◌, ◌<◌, ◌≤◌, ◌+◌, ◌-◌, ◌^◌, ◌++◌, ◌∷◌, ◌∙◌, [], ℕ, List, None, Some, Option, arith, inl, inr, refl, subst, sym, ap, length, max, min, set, cond, true, false, eqb, get_or, length-append, length-set, unwrap_or, Result, Ok, Err, OnOk, OnErr}
use Rattle.std.proofs.lemmas.Bool.{cases_lt}
use Rattle.std.proofs.lemmas.Bool.Decides.{eqb_tells}
use Rattle.std.proofs.lemmas.List.{get_or_append_left, get_or_default, get_or_past, get_or_push, get_or-set_other, get_or-set_same, set_past}
use Rattle.fuse_wire.specs.declared.replies.Time.{Time}
use Rattle.fuse_wire.specs.declared.request.NewTime.{NewTime}
use Rattle.fuse_wire.specs.declared.request.NewTime.TheVariants as new_time
use Rattle.mount_nodes.specs.declared.times.Stamp.{Stamp}
use Rattle.mount_nodes.specs.declared.times.Times.{Times}
use Rattle.mount_nodes.specs.Times.{Adds, Ages, BeginsAs, GoesOn, IsGiven, IsLater, IsNamed, IsSet, IsSetTo, IsTouched, IsWritten, Meets, Puts, Runs, Stays, StaysOrRises, first_stamp, named_stamp, next_time, set_accessed, set_modified, set_stamp, set_written, stamp_at, time_of, told_of, touched_stamp, written_stamp}
use Rattle.mount_nodes.proofs.TimeLemmas.{same_ages}

-- ---- where a stamp stands

at_given : (a b : Times) (id : ℕ) (s : Stamp) → b.stamps.items ≡ set a.stamps.items id s → IsGiven a id → stamp_at b id ≡ s
at_given a b id s e given = ap (λ xs. get_or xs id (first_stamp 0 b.last)) e ∙ get_or-set_same a.stamps.items id s (first_stamp 0 b.last) given

at_other : (a b : Times) (id other : ℕ) (s : Stamp) → b.stamps.items ≡ set a.stamps.items id s → b.last ≡ a.last → other ≢ id → stamp_at b other ≡ stamp_at a other
at_other a b id other s e last apart =
    ap (λ xs. get_or xs other (first_stamp 0 b.last)) e
    ∙ (get_or-set_other a.stamps.items id other s (first_stamp 0 b.last) apart ∙ ap (λ n. get_or a.stamps.items other (first_stamp 0 n)) last)

at_ungiven : (a b : Times) (id : ℕ) (s : Stamp) → b.stamps.items ≡ set a.stamps.items id s → b.last ≡ a.last → length a.stamps.items ≤ id → stamp_at b id ≡ stamp_at a id
at_ungiven a b id s e last past =
    ap (λ xs. get_or xs id (first_stamp 0 b.last)) (e ∙ set_past a.stamps.items id s past) ∙ ap (λ n. get_or a.stamps.items id (first_stamp 0 n)) last

past_stamp : (a : Times) (id : ℕ) → length a.stamps.items ≤ id → stamp_at a id ≡ first_stamp 0 a.last
past_stamp a id past = get_or_past a.stamps.items id (first_stamp 0 a.last) past

-- ---- the time of the next change

later_next : (a : Times) → IsLater a (next_time a)
later_next a = elim (cases_lt a.last (2 ^ 64 - 1)) [ inl less ↦ inl (omega (arith, less)) | inr most ↦ inr (omega (arith, most)) ]

-- the time of the last change is another one, and nothing else is
abbrev pub Moves : Times → Times → ℕ → Type 0
Moves a m n = m ≡ record a { last = n }

moved_last : (a m : Times) (n : ℕ) → Moves a m n → m.last ≡ n
moved_last a m n e = ap (λ (x : Times). x.last) e

moved_given : (a m : Times) (n id : ℕ) → Moves a m n → IsGiven a id → stamp_at m id ≡ stamp_at a id
moved_given a m n id e given = ap (λ (x : Times). stamp_at x id) e ∙ get_or_default a.stamps.items id (first_stamp 0 n) (first_stamp 0 a.last) given

moved_past : (a m : Times) (n id : ℕ) → Moves a m n → length a.stamps.items ≤ id → stamp_at m id ≡ first_stamp 0 n
moved_past a m n id e past = ap (λ (x : Times). stamp_at x id) e ∙ get_or_past a.stamps.items id (first_stamp 0 n) past

moved_length : (a m : Times) (n : ℕ) → Moves a m n → length m.stamps.items ≡ length a.stamps.items
moved_length a m n e = ap (λ (x : Times). length x.stamps.items) e

-- a number that was not given is as the last change is
past_ages : (a b : Times) (n : ℕ) → n ≡ next_time a → b.last ≡ n → Ages a b (first_stamp 0 a.last) (first_stamp 0 n)
past_ages a b n is last =
    let later : IsLater a n = subst (λ x. IsLater a x) (sym is) (later_next a) in
    inl (refl, inr (later, omega (arith, last)), inr (later, omega (arith, last)))

moved_ages : (a m b : Times) (n id : ℕ) → n ≡ next_time a → Moves a m n → b.last ≡ n → Ages a b (stamp_at a id) (stamp_at m id)
moved_ages a m b n id is e last = elim (cases_lt id (length a.stamps.items)) [
  | inl given ↦ same_ages a b (stamp_at a id) (stamp_at m id) (moved_given a m n id e given)
  | inr past ↦ rw (past_stamp a id past, moved_past a m n id e past) (past_ages a b n is last)
]

-- ---- a change of one stamp

module _ (a m b : Times) (n id : ℕ) (s : Stamp) (is : n ≡ next_time a) (rises : a.last ≤ n) (e : Moves a m n) (p : Puts m b id s) where
  b_last : b.last ≡ n
  b_last = p.last ∙ moved_last a m n e

  m_given : IsGiven a id → IsGiven m id
  m_given given = omega (arith, given, moved_length a m n e)

  m_past : length a.stamps.items ≤ id → length m.stamps.items ≤ id
  m_past past = omega (arith, past, moved_length a m n e)

  changed_given : IsGiven a id → stamp_at b id ≡ s
  changed_given given = at_given m b id s p.put (m_given given)

  changed_past : length a.stamps.items ≤ id → stamp_at b id ≡ first_stamp 0 n
  changed_past past = at_ungiven m b id s p.put p.last (m_past past) ∙ moved_past a m n id e past

  changed_other : (other : ℕ) → other ≢ id → stamp_at b other ≡ stamp_at m other
  changed_other other apart = at_other m b id other s p.put p.last apart

  own_ages : (IsGiven a id → Ages a b (stamp_at a id) s) → Ages a b (stamp_at a id) (stamp_at b id)
  own_ages ages = elim (cases_lt id (length a.stamps.items)) [
    | inl given ↦ rw (changed_given given) (ages given)
    | inr past ↦ rw (past_stamp a id past, changed_past past) (past_ages a b n is b_last)
  ]

  each_ages : (IsGiven a id → Ages a b (stamp_at a id) s) → (other : ℕ) → Ages a b (stamp_at a other) (stamp_at b other)
  each_ages ages other = elim (eqb_tells other id) [
    | inl same ↦ subst (λ k. Ages a b (stamp_at a k) (stamp_at b k)) (sym same.1) (own_ages ages)
    | inr apart ↦ rw (changed_other other apart.1) (moved_ages a m b n other is e b_last)
  ]

  pub change_goes : (IsGiven a id → Ages a b (stamp_at a id) s) → GoesOn a b
  change_goes ages = record {
    began = p.began ∙ ap (λ (x : Times). x.began) e;
    day = p.day ∙ ap (λ (x : Times). x.day) e;
    last = omega (arith, rises, b_last);
    stamps = each_ages ages;
  }

  moved_unset : (other : ℕ) → ((stamp_at m other).modified ≡ None) ⊎ ((stamp_at m other).modified ≡ (stamp_at a other).modified)
  moved_unset other = elim (cases_lt other (length a.stamps.items)) [
    | inl given ↦ inr (ap (λ (x : Stamp). x.modified) (moved_given a m n other e given))
    | inr past ↦ inl (ap (λ (x : Stamp). x.modified) (moved_past a m n other e past))
  ]

  own_unset : (s.modified ≡ None) ⊎ (s.modified ≡ (stamp_at a id).modified) → ((stamp_at b id).modified ≡ None) ⊎ ((stamp_at b id).modified ≡ (stamp_at a id).modified)
  own_unset unset = elim (cases_lt id (length a.stamps.items)) [
    | inl given ↦ rw (changed_given given) unset
    | inr past ↦ inl (ap (λ (x : Stamp). x.modified) (changed_past past))
  ]

  each_unset : (s.modified ≡ None) ⊎ (s.modified ≡ (stamp_at a id).modified) → (other : ℕ) → ((stamp_at b other).modified ≡ None) ⊎ ((stamp_at b other).modified ≡ (stamp_at a other).modified)
  each_unset unset other = elim (eqb_tells other id) [
    | inl same ↦ subst (λ k. ((stamp_at b k).modified ≡ None) ⊎ ((stamp_at b k).modified ≡ (stamp_at a k).modified)) (sym same.1) (own_unset unset)
    | inr apart ↦ rw (changed_other other apart.1) (moved_unset other)
  ]

  pub change_runs : (IsGiven a id → Ages a b (stamp_at a id) s) → (s.modified ≡ None) ⊎ (s.modified ≡ (stamp_at a id).modified) → Runs a b
  change_runs ages unset = record { goes = change_goes ages; unset = each_unset unset }

-- ---- the changes

module _ (a m b : Times) (n id : ℕ) (is : n ≡ next_time a) (rises : a.last ≤ n) (e : Moves a m n) where
  later : IsLater a n
  later = subst (λ x. IsLater a x) (sym is) (later_next a)

  within : (b.last ≡ m.last) → n ≤ b.last
  within last = omega (arith, last, moved_last a m n e)

  -- bytes or entries
  written_ages : (p : Puts m b id (written_stamp (stamp_at m id) n)) → IsGiven a id → Ages a b (stamp_at a id) (written_stamp (stamp_at m id) n)
  written_ages p given = inl (ap (λ (x : Stamp). x.generation) (moved_given a m n id e given), inr (later, within p.last), inr (later, within p.last))

  pub write_runs : Puts m b id (written_stamp (stamp_at m id) n) → Runs a b
  write_runs p = change_runs a m b n id (written_stamp (stamp_at m id) n) is rises e p (written_ages p) (inl refl)

  pub write_is_written : Puts m b id (written_stamp (stamp_at m id) n) → IsWritten a b id
  write_is_written p own = elim (cases_lt id (length a.stamps.items)) [
    | inl given ↦ rw (changed_given a m b n id (written_stamp (stamp_at m id) n) is rises e p given) (later, later, refl)
    | inr past ↦ rw (changed_past a m b n id (written_stamp (stamp_at m id) n) is rises e p past) (later, later, refl)
  ]

  -- something else
  touched_ages : (p : Puts m b id (touched_stamp (stamp_at m id) n)) → IsGiven a id → Ages a b (stamp_at a id) (touched_stamp (stamp_at m id) n)
  touched_ages p given =
      inl (ap (λ (x : Stamp). x.generation) (moved_given a m n id e given), inr (later, within p.last), inl (ap (λ (x : Stamp). x.written) (moved_given a m n id e given)))

  pub touch_runs : Puts m b id (touched_stamp (stamp_at m id) n) → Runs a b
  touch_runs p = change_runs a m b n id (touched_stamp (stamp_at m id) n) is rises e p (touched_ages p) (moved_unset a m b n id (touched_stamp (stamp_at m id) n) is rises e p id)

  pub touch_is_touched : Puts m b id (touched_stamp (stamp_at m id) n) → IsTouched a b id
  touch_is_touched p own = elim (cases_lt id (length a.stamps.items)) [
    | inl given ↦ rw (changed_given a m b n id (touched_stamp (stamp_at m id) n) is rises e p given) later
    | inr past ↦ rw (changed_past a m b n id (touched_stamp (stamp_at m id) n) is rises e p past) later
  ]

  -- a name
  named_rises : (b.last ≡ m.last) → (w v began : ℕ) → w ≡ v → StaysOrRises a b v (cond (eqb w began) n w)
  named_rises last w v began same = elim (eqb_tells w began) [ inl t ↦ rw t.0 (inr (later, within last)) | inr f ↦ rw f.0 (inl same) ]

  named_ages : (p : Puts m b id (named_stamp (stamp_at m id) n m.began)) → IsGiven a id → Ages a b (stamp_at a id) (named_stamp (stamp_at m id) n m.began)
  named_ages p given =
      inl (
        ap (λ (x : Stamp). x.generation) (moved_given a m n id e given),
        inr (later, within p.last),
        named_rises p.last (stamp_at m id).written (stamp_at a id).written m.began (ap (λ (x : Stamp). x.written) (moved_given a m n id e given)),
      )

  pub name_runs : Puts m b id (named_stamp (stamp_at m id) n m.began) → Runs a b
  name_runs p = change_runs a m b n id (named_stamp (stamp_at m id) n m.began) is rises e p (named_ages p) (moved_unset a m b n id (named_stamp (stamp_at m id) n m.began) is rises e p id)

  unseen_rises : (w began : ℕ) → w ≡ began → IsLater a (cond (eqb w began) n w)
  unseen_rises w began same = elim (eqb_tells w began) [ inl t ↦ rw t.0 later | inr f ↦ absurd (f.1 same) ]

  pub name_is_named : Puts m b id (named_stamp (stamp_at m id) n m.began) → IsNamed a b id
  name_is_named p own = elim (cases_lt id (length a.stamps.items)) [
    | inl given ↦
        let began : m.began ≡ a.began = ap (λ (x : Times). x.began) e in
        let was : (stamp_at m id).written ≡ (stamp_at a id).written = ap (λ (x : Stamp). x.written) (moved_given a m n id e given) in
        rw (changed_given a m b n id (named_stamp (stamp_at m id) n m.began) is rises e p given) (later, λ unseen. unseen_rises (stamp_at m id).written m.began (was ∙ (unseen ∙ sym began)))
    | inr past ↦ rw (changed_past a m b n id (named_stamp (stamp_at m id) n m.began) is rises e p past) (later, λ unseen. later)
  ]

  -- times that are set
  set_rises : (b.last ≡ m.last) → (w v : ℕ) (modified : Option NewTime) → w ≡ v → StaysOrRises a b v (set_written w n modified)
  set_rises last w v None same = inl same
  set_rises last w v (Some new_time.Now) same = inr (later, within last)
  set_rises last w v (Some (new_time.At given)) same = inl same

  set_ages : (accessed modified : Option NewTime) (p : Puts m b id (set_stamp (stamp_at m id) n accessed modified)) → IsGiven a id → Ages a b (stamp_at a id) (set_stamp (stamp_at m id) n accessed modified)
  set_ages accessed modified p given =
      inl (
        ap (λ (x : Stamp). x.generation) (moved_given a m n id e given),
        inr (later, within p.last),
        set_rises p.last (stamp_at m id).written (stamp_at a id).written modified (ap (λ (x : Stamp). x.written) (moved_given a m n id e given)),
      )

  pub set_goes : (accessed modified : Option NewTime) → Puts m b id (set_stamp (stamp_at m id) n accessed modified) → GoesOn a b
  set_goes accessed modified p = change_goes a m b n id (set_stamp (stamp_at m id) n accessed modified) is rises e p (set_ages accessed modified p)

accessed_is_set : (s : Stamp) (n : ℕ) (accessed modified : Option NewTime) → IsSetTo accessed n (told_of (set_stamp s n accessed modified)).accessed
accessed_is_set s n None modified = tt
accessed_is_set s n (Some new_time.Now) modified = refl
accessed_is_set s n (Some (new_time.At given)) modified = refl

modified_is_set : (s : Stamp) (n : ℕ) (accessed modified : Option NewTime) → IsSetTo modified n (told_of (set_stamp s n accessed modified)).modified
modified_is_set s n accessed None = tt
modified_is_set s n accessed (Some new_time.Now) = refl
modified_is_set s n accessed (Some (new_time.At given)) = refl

pub set_is_set : (m b : Times) (n id : ℕ) (accessed modified : Option NewTime) → Puts m b id (set_stamp (stamp_at m id) n accessed modified) → IsSet b id accessed modified
set_is_set m b n id accessed modified p given =
    let s = set_stamp (stamp_at m id) n accessed modified in
    let was : IsGiven m id = omega (arith, given, ap length p.put, length-set m.stamps.items id s) in
    rw (at_given m b id s p.put was) (accessed_is_set (stamp_at m id) n accessed modified, modified_is_set (stamp_at m id) n accessed modified)

-- ---- numbers that are given

pub put_meets : (a b : Times) (id generation : ℕ) → generation ≡ (stamp_at a id).generation → IsGiven a id → Puts a b id (first_stamp (generation + 1) a.began) → Meets a b
put_meets a b id generation same given p = record {
  began = p.began;
  day = p.day;
  last = p.last;
  stamps = λ other. elim (eqb_tells other id) [
    | inl t ↦ subst (λ k. (stamp_at b k ≡ stamp_at a k) ⊎ BeginsAs a.began (stamp_at a k) (stamp_at b k)) (sym t.1) (inr (at_given a b id (first_stamp (generation + 1) a.began) p.put given ∙ ap (λ k. first_stamp (k + 1) a.began) same))
    | inr f ↦ inl (at_other a b id other (first_stamp (generation + 1) a.began) p.put p.last f.1)
  ];
}

added_at : (a b : Times) (s : Stamp) (other : ℕ) → Adds a b s → other ≢ length a.stamps.items → stamp_at b other ≡ stamp_at a other
added_at a b s other p apart = elim (cases_lt other (length a.stamps.items)) [
  | inl given ↦
      ap (λ xs. get_or xs other (first_stamp 0 b.last)) p.added
      ∙ (get_or_append_left a.stamps.items (s ∷ []) (first_stamp 0 b.last) other given ∙ ap (λ n. get_or a.stamps.items other (first_stamp 0 n)) p.last)
  | inr past ↦
      let long : length b.stamps.items ≤ other = omega (arith, past, apart, ap length p.added, length-append a.stamps.items (s ∷ [])) in
      past_stamp b other long ∙ (ap (first_stamp 0) p.last ∙ sym (past_stamp a other past))
]

pub add_meets : (a b : Times) (id generation : ℕ) → id ≡ length a.stamps.items → generation ≡ (stamp_at a id).generation → Adds a b (first_stamp (generation + 1) a.began) → Meets a b
add_meets a b id generation next same p = record {
  began = p.began;
  day = p.day;
  last = p.last;
  stamps = λ other. elim (eqb_tells other id) [
    | inl t ↦
        let last : id ≡ length a.stamps.items = next in
        let here : stamp_at b id ≡ first_stamp (generation + 1) a.began = ap (λ xs. get_or xs id (first_stamp 0 b.last)) p.added ∙ get_or_push a.stamps.items (first_stamp (generation + 1) a.began) (first_stamp 0 b.last) id (sym last) in
        subst (λ k. (stamp_at b k ≡ stamp_at a k) ⊎ BeginsAs a.began (stamp_at a k) (stamp_at b k)) (sym t.1) (inr (here ∙ ap (λ k. first_stamp (k + 1) a.began) same))
    | inr f ↦ inl (added_at a b (first_stamp (generation + 1) a.began) other p (λ at. f.1 (at ∙ sym next)))
  ];
}

stays_meets : (a b : Times) → Stays a b → Meets a b
stays_meets a b p = record {
  began = p.began;
  day = p.day;
  last = p.last;
  stamps = λ id. inl (ap (λ xs. get_or xs id (first_stamp 0 b.last)) p.kept ∙ ap (λ n. get_or a.stamps.items id (first_stamp 0 n)) p.last);
}

pub added_meets : {E : Type 0} (a b : Times) (id generation : ℕ) (result : Result (Unit {0}) E) → id ≡ length a.stamps.items → generation ≡ (stamp_at a id).generation → OnOk result (Adds a b (first_stamp (generation + 1) a.began)) → OnErr result (Stays a b) → Meets a b
added_meets a b id generation (Ok x) next same added kept = add_meets a b id generation next same added
added_meets a b id generation (Err e) next same added kept = stays_meets a b kept
