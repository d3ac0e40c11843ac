-- Which records of a client can't be digested, by those that a digest of some of them names.
use Rattle.std.proofs.Common.{◌≡◌, inl, inr, ℕ, zero, suc, ◌+◌, ◌<◌, ◌≤◌, true, List, [], ◌∷◌, ◌++◌, length, take, drop, refl, ap, sym, ◌∙◌, subst, arith}
use Rattle.std.specs.Prelude.{nat_le}
use Rattle.std.proofs.lemmas.Bool.{and_from, le-leb}
use Rattle.std.proofs.lemmas.List.{drop-drop, length-drop, take-append-drop}
use Rattle.recovery_laws.specs.digester.DigestStep.{NamesFirstBad}
use Rattle.recovery_laws.specs.digester.Plan.{AreGood, IsFirstBad}
use Rattle.recovery_laws.specs.digester.SealedLog.{SealedView, done_to, undone}
use Rattle.recovery_laws.specs.digester.declared.error.DigestError.{DigestError}
use Rattle.recovery_laws.specs.digester.declared.error.DigestError.TheVariants as digests
use Rattle.recovery_laws.specs.area_reader.Store.{Store, graph}
use Rattle.graph_check.specs.record_validation.Good.{IsGood}
use Rattle.recovery_laws.specs.layout.Places.{Sizes, is_inode}
use Rattle.graph_check.specs.file_graph.Graph.{Graph, after_effects}
use Rattle.graph_check.specs.log_record.Grammar.{IsInode}
use Rattle.graph_check.specs.log_record.declared.format.Record.{Record}
use Rattle.graph_check.proofs.record_validation_lemmas.Rises.{touched_fit}
use Rattle.recovery_laws.specs.Inodes.{HasEveryInode}
use Rattle.log_survey.specs.world_invariant.Logs.{after_records}
use Rattle.area_recovery.specs.declared.error.RecoveryError.{RecoveryError}
use Rattle.area_recovery.specs.declared.error.RecoveryError.TheVariants as errors
use Rattle.area_recovery.specs.DigestedLogs.{CanDigest, IsFirstRefused, IsRefusal, IsRegionReadRefusal, NamesBad, NamesRefused}
use Rattle.area_recovery.specs.Errors.{OnBadLog}
use Rattle.area_recovery.specs.FaultOrMemory.{IsFaultOrMemory}
use Rattle.area_recovery.proofs.EveryInode.{all_there, numbers_to}

-- ---- whoever holds every inode

inode_is : (i : ℕ) → IsInode i → is_inode i ≡ true
inode_is i is = and_from (nat_le 1 i) (nat_le i 1024) (le-leb 1 i is.0) (le-leb i 1024 is.1)

module _ (held other : List ℕ) (every : HasEveryInode other) (capacity : ℕ) where
  good_too : (g : Graph) (r : Record) → IsGood held capacity g r → IsGood other capacity g r
  good_too g r good = record {
    spelled = good.spelled;
    holds = λ i there. every i (inode_is i (touched_fit r.effects good.spelled.fit i there));
    paid = good.paid;
    limits = good.limits;
    charge = good.charge;
  }

  goods_too : (g : Graph) (rs : List Record) → AreGood held capacity g rs → AreGood other capacity g rs
  goods_too g [] good = tt
  goods_too g (r ∷ rs) good = (good_too g r good.0, goods_too (after_effects g r.effects) rs good.1)

module _ (held other : List ℕ) (every : HasEveryInode held) (every_too : HasEveryInode other) (capacity : ℕ) where
  first_too : (g : Graph) (rs : List Record) (k : ℕ) → IsFirstBad held capacity g rs k → IsFirstBad other capacity g rs k
  first_too g [] k bad = absurd bad
  first_too g (r ∷ rs) zero bad = λ good. bad (good_too other held every capacity g r good)
  first_too g (r ∷ rs) (suc k) bad = (good_too held other every_too capacity g r bad.0, first_too (after_effects g r.effects) rs k bad.1)

pub all_digest : (held : List ℕ) (capacity : ℕ) (g : Graph) (rs : List Record) → AreGood held capacity g rs → CanDigest capacity g rs
all_digest held capacity g rs good other every = goods_too held other every capacity g rs good

pub first_refused : (held : List ℕ) → HasEveryInode held → (capacity : ℕ) (g : Graph) (rs : List Record) (k : ℕ) → IsFirstBad held capacity g rs k → IsFirstRefused capacity g rs k
first_refused held every capacity g rs k bad other every_too = first_too held other every every_too capacity g rs k bad

-- ---- records behind others

module _ (held : List ℕ) (capacity : ℕ) where
  pub goods_behind : (g : Graph) (xs ys : List Record) → AreGood held capacity g xs → AreGood held capacity (after_records g xs) ys → AreGood held capacity g (xs ++ ys)
  goods_behind g [] ys first next = next
  goods_behind g (a ∷ xs) ys first next = (first.0, goods_behind (after_effects g a.effects) xs ys first.1 next)

  pub bad_behind : (g : Graph) (xs ys : List Record) (k : ℕ) → AreGood held capacity g xs → IsFirstBad held capacity (after_records g xs) ys k → IsFirstBad held capacity g (xs ++ ys) (length xs + k)
  bad_behind g [] ys k first next = subst (IsFirstBad held capacity g ys) (omega arith) next
  bad_behind g (a ∷ xs) ys k first next = subst (IsFirstBad held capacity g (a ∷ (xs ++ ys))) (more (length xs) k) (first.0, bad_behind (after_effects g a.effects) xs ys k first.1 next)
    where
      more : (m n : ℕ) → suc (m + n) ≡ suc m + n
      more m n = omega arith

  -- the first bad one of some is that of all
  pub bad_in_front : (g : Graph) (rs : List Record) (n k : ℕ) → IsFirstBad held capacity g (take n rs) k → IsFirstBad held capacity g rs k
  bad_in_front g rs zero k bad = absurd bad
  bad_in_front g [] (suc n) k bad = absurd bad
  bad_in_front g (r ∷ rs) (suc n) zero bad = bad
  bad_in_front g (r ∷ rs) (suc n) (suc k) bad = (bad.0, bad_in_front (after_effects g r.effects) rs n k bad.1)

  -- it stands among them
  pub bad_within : (g : Graph) (rs : List Record) (k : ℕ) → IsFirstBad held capacity g rs k → k + 1 ≤ length rs
  bad_within g [] k bad = absurd bad
  bad_within g (r ∷ rs) zero bad = omega arith
  bad_within g (r ∷ rs) (suc k) bad = (let low = bad_within (after_effects g r.effects) rs k bad.1 in omega (arith, low))

  pub goods_on : (g : Graph) (rs : List Record) (n : ℕ) → AreGood held capacity g (take n rs) → AreGood held capacity (after_records g (take n rs)) (drop n rs) → AreGood held capacity g rs
  goods_on g rs n first next = subst (AreGood held capacity g) (take-append-drop n rs) (goods_behind g (take n rs) (drop n rs) first next)

  pub bad_on : (g : Graph) (rs : List Record) (n k : ℕ) → n ≤ length rs → AreGood held capacity g (take n rs) → IsFirstBad held capacity (after_records g (take n rs)) (drop n rs) k → IsFirstBad held capacity g rs (n + k)
  bad_on g rs n k low first next =
      let long : length (take n rs) ≡ n = length_taken n rs low in
      subst (λ (l : ℕ). IsFirstBad held capacity g rs (l + k)) long (subst (λ (qs : List Record). IsFirstBad held capacity g qs (length (take n rs) + k)) (take-append-drop n rs) (bad_behind g (take n rs) (drop n rs) k first next))
    where
      length_taken : {A : Type 0} (n : ℕ) (xs : List A) → n ≤ length xs → length (take n xs) ≡ n
      length_taken zero xs low = refl
      length_taken (suc n) [] low = absurd (omega (arith, low))
      length_taken (suc n) (x ∷ xs) low = ap suc (length_taken n xs (omega (arith, low)))

-- so it is for whoever holds every inode
pub digest_behind : (capacity : ℕ) (g : Graph) (xs ys : List Record) → CanDigest capacity g xs → CanDigest capacity (after_records g xs) ys → CanDigest capacity g (xs ++ ys)
digest_behind capacity g xs ys first next held every = goods_behind held capacity g xs ys (first held every) (next held every)

pub refused_behind : (capacity : ℕ) (g : Graph) (xs ys : List Record) (k : ℕ) → CanDigest capacity g xs → IsFirstRefused capacity (after_records g xs) ys k → IsFirstRefused capacity g (xs ++ ys) (length xs + k)
refused_behind capacity g xs ys k first next held every = bad_behind held capacity g xs ys k (first held every) (next held every)

-- the first refused of some is that of all
pub refused_in_front : (capacity : ℕ) (g : Graph) (xs ys : List Record) (k : ℕ) → IsFirstRefused capacity g xs k → IsFirstRefused capacity g (xs ++ ys) k
refused_in_front capacity g xs ys k first held every = bad_in_front held capacity g (xs ++ ys) (length xs) k (subst (λ (qs : List Record). IsFirstBad held capacity g qs k) (sym (taken xs ys)) (first held every))
  where
    taken : {A : Type 0} (xs ys : List A) → take (length xs) (xs ++ ys) ≡ xs
    taken [] ys = refl
    taken (x ∷ xs) ys = ap (λ zs. x ∷ zs) (taken xs ys)

-- ---- what a refusal names

-- a refusal for a device or memory names no record
pub fault_named : (client before capacity : ℕ) (g : Graph) (rs : List Record) (e : RecoveryError) → IsFaultOrMemory e → NamesRefused client before capacity g rs e
fault_named client before capacity g rs errors.DeviceFault is = tt
fault_named client before capacity g rs (errors.Damaged structure block) is = absurd is
fault_named client before capacity g rs errors.AreaSize is = tt
fault_named client before capacity g rs errors.RegionSize is = tt
fault_named client before capacity g rs (errors.BadLog c place) is = absurd is
fault_named client before capacity g rs errors.Memory is = tt

-- of a digest that was refused
module _ (client before from capacity : ℕ) (g : Graph) (rs : List Record) where
  pub named_refused : (error : DigestError) (f : RecoveryError) → IsRefusal client error f → ((k : ℕ) → error ≡ digests.BadLog (from + k) → before + k < 18446744073709551616 → f ≡ errors.BadLog client (before + k))
      → ((place : ℕ) → error ≡ digests.BadLog place → (k : ℕ) × (place ≡ from + k) × IsFirstRefused capacity g rs k) → NamesRefused client before capacity g rs f
  named_refused digests.DeviceFault f is at bad = subst (NamesRefused client before capacity g rs) (sym is) tt
  named_refused digests.Memory f is at bad = subst (NamesRefused client before capacity g rs) (sym is) tt
  named_refused (digests.BadLog place) f is at bad =
      let first = bad place refl in
      subst (NamesRefused client before capacity g rs) (sym is.1) (refl, first.0, (λ low. same_place is.0 (before + first.0) (sym is.1 ∙ at first.0 (ap digests.BadLog first.1) low)), first.2)
    where
      same_place : (a b : ℕ) → errors.BadLog client a ≡ errors.BadLog client b → a ≡ b
      same_place a b e = cc

-- the first bad one of a sealed log, once more records are digested
pub first_named : (g : Sizes) (s : Store) (x : SealedView) (n : ℕ) (e : DigestError) → NamesFirstBad g s x n e → NamesBad g s x e
first_named g s x n digests.DeviceFault bad = tt
first_named g s x n (digests.BadLog place) bad = (bad.0, bad.2, bad_in_front x.held g.units (graph g s) (undone x) n bad.0 bad.1)
first_named g s x n digests.Memory bad = tt

pub bad_place : (g : Sizes) (s : Store) (x : SealedView) (e : DigestError) → NamesBad g s x e → (place : ℕ) → e ≡ digests.BadLog place → (k : ℕ) × (place ≡ x.done + k) × IsFirstBad x.held g.units (graph g s) (undone x) k
bad_place g s x e bad place is = subst (NamesBad g s x) is bad

module _ (x y : SealedView) (n capacity : ℕ) (g h : Graph) (log : y ≡ done_to (x.done + n) x) (within : x.done + n ≤ length x.records) (after : h ≡ after_records g (take n (undone x))) (good : AreGood x.held capacity g (take n (undone x))) where
  left_is : undone y ≡ drop n (undone x)
  left_is = ap undone log ∙ sym (drop-drop n x.done x.records)

  pub next_goods : AreGood x.held capacity h (undone y) → AreGood x.held capacity g (undone x)
  next_goods more = goods_on x.held capacity g (undone x) n good (subst (λ (k : Graph). AreGood x.held capacity k (drop n (undone x))) after (subst (AreGood x.held capacity h) left_is more))

  pub next_bad : (k : ℕ) → IsFirstBad x.held capacity h (undone y) k → IsFirstBad x.held capacity g (undone x) (n + k)
  next_bad k bad =
      let long = length-drop x.done x.records in
      bad_on x.held capacity g (undone x) n k (omega (arith, long, within)) good (subst (λ (q : Graph). IsFirstBad x.held capacity q (drop n (undone x)) k) after (subst (λ (qs : List Record). IsFirstBad x.held capacity h qs k) left_is bad))

-- ---- a client's log in two parts

-- it stands among them
pub refused_within : (capacity : ℕ) (g : Graph) (rs : List Record) (k : ℕ) → IsFirstRefused capacity g rs k → k + 1 ≤ length rs
refused_within capacity g rs k first = bad_within (numbers_to 1024) capacity g rs k (first (numbers_to 1024) all_there)

pub nothing_to_digest : (capacity : ℕ) (g : Graph) (rs : List Record) → rs ≡ [] → CanDigest capacity g rs
nothing_to_digest capacity g rs none = subst (CanDigest capacity g) (sym none) (λ held every. tt)

module _ (client capacity : ℕ) (g : Graph) (xs ys log : List Record) (is : log ≡ xs ++ ys) where
  pub parts_digest : CanDigest capacity g xs → CanDigest capacity (after_records g xs) ys → CanDigest capacity g log
  parts_digest first next = subst (CanDigest capacity g) (sym is) (digest_behind capacity g xs ys first next)

  abbrev Names : RecoveryError → Type 0
  Names e = OnBadLog e (λ c place. (c ≡ client) × IsFirstRefused capacity g log place)

  pub front_named : length xs < 4294967296 → (e : RecoveryError) → NamesRefused client 0 capacity g xs e → Names e
  front_named few errors.DeviceFault n = tt
  front_named few (errors.Damaged structure block) n = tt
  front_named few errors.AreaSize n = tt
  front_named few errors.RegionSize n = tt
  front_named few (errors.BadLog c place) n =
      let low = refused_within capacity g xs n.1 n.3 in
      let at : place ≡ n.1 = n.2 (omega (arith, low, few)) ∙ omega arith in
      (n.0, subst (IsFirstRefused capacity g log) (sym at) (subst (λ (qs : List Record). IsFirstRefused capacity g qs n.1) (sym is) (refused_in_front capacity g xs ys n.1 n.3)))
  front_named few errors.Memory n = tt

  pub behind_named : (before : ℕ) → before ≡ length xs → length xs < 4294967296 → length ys < 4294967296 → CanDigest capacity g xs → (e : RecoveryError) → NamesRefused client before capacity (after_records g xs) ys e → Names e
  behind_named before long few few_too first errors.DeviceFault n = tt
  behind_named before long few few_too first (errors.Damaged structure block) n = tt
  behind_named before long few few_too first errors.AreaSize n = tt
  behind_named before long few few_too first errors.RegionSize n = tt
  behind_named before long few few_too first (errors.BadLog c place) n =
      let low = refused_within capacity (after_records g xs) ys n.1 n.3 in
      let at : place ≡ length xs + n.1 = n.2 (omega (arith, low, long, few, few_too)) ∙ ap (λ k. k + n.1) long in
      (n.0, subst (IsFirstRefused capacity g log) (sym at) (subst (λ (qs : List Record). IsFirstRefused capacity g qs (length xs + n.1)) (sym is) (refused_behind capacity g xs ys n.1 first n.3)))
  behind_named before long few few_too first errors.Memory n = tt

-- records that are not read name none, where they are few
pub read_named : (client before capacity : ℕ) (g : Graph) (rs read : List Record) (e : RecoveryError) → IsRegionReadRefusal client read e → length read < 4294967296 → NamesRefused client before capacity g rs e
read_named client before capacity g rs read e (inl is) few = subst (NamesRefused client before capacity g rs) (sym is) tt
read_named client before capacity g rs read e (inr (inl is)) few = subst (NamesRefused client before capacity g rs) (sym is) tt
read_named client before capacity g rs read e (inr (inr more)) few = (let many = more.2 in absurd (omega (arith, many, few)))
