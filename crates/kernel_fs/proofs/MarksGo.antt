-- The marks of the media beside those of the machine, step by step.
use Rattle.std.proofs.Common.{◌≡◌, ◌≢◌, inl, inr, ℕ, ◌+◌, ◌-◌, ◌≤◌, List, [], ◌∷◌, length, drop, true, cond, refl, ap, sym, ◌∙◌, subst, arith}
use Rattle.std.proofs.lemmas.Bool.{false≢true}
use Rattle.std.proofs.lemmas.Bool.Decides.{eqb_tells}
use Rattle.posix_calls.specs.Tree.{sum_up_to}
use Rattle.posix_calls.specs.Operations.{is_client}
use Rattle.posix_calls.proofs.Sums.{same_if, there_if, all_zero}
use Rattle.world_invariant.specs.file_graph.Graph.{Graph}
use Rattle.world_invariant.specs.file_graph.Units.{charge}
use Rattle.world_invariant.specs.log_record.declared.format.Record.{Record}
use Rattle.world_invariant.specs.Limits.{AreWithin}
use Rattle.world_invariant.specs.World.{Account, at}
use Rattle.world_invariant.specs.Machine.{Machine, Sealed, IsRunning, accept, account_after, digest, undigested_sealed}
use Rattle.kernel_fs.specs.Marks.{AreMarksAfter, AreMarksOf, IsMarkOf, IsWaiting}
use Rattle.kernel_fs.specs.Steps.{opened_machine}

pub opened_runs : (g : Graph) (capacity : ℕ) (marks : ℕ → ℕ) → AreWithin g → charge g ≤ capacity → IsRunning (opened_machine g capacity marks)
opened_runs g capacity marks within fits =
    let none : sum_up_to 8 (λ c. 0) ≡ 0 = all_zero 8 (λ c. 0) (λ j. refl) in
    record {
      booked = record {
        free = λ c i is e. absurd (false≢true e);
        range = λ c i is e. absurd (false≢true e);
        alone = λ c d i is_c is_d off e. absurd (false≢true e);
        limits = within;
        fits = omega (arith, none, fits);
      };
      accepted = λ c is. omega arith;
    }

pub none_in : {X : Type 0} (xs : List X) → length xs ≡ 0 → xs ≡ []
none_in [] e = refl
none_in (x ∷ xs) e = absurd (omega (arith, e))

pub accepted_marks : (done : ℕ → ℕ) (m : Machine) (c : ℕ) (s : Sealed) → AreMarksOf done m → (m.kernel.accounts c).mark ≤ s.past → s.records ≢ [] → AreMarksOf done (accept m c s)
accepted_marks done m c s marks low some d is_d = record {
  counted = (marks d is_d).counted;
  between = λ e. elim (eqb_tells d c) [
    | inl same ↦
        let all : s.past + length s.records ≡ (m.kernel.accounts d).mark = sym (ap (λ b. cond b (s.past + length s.records) (m.accepted d)) same.0) ∙ e in
        let own : (m.kernel.accounts d).mark ≡ (m.kernel.accounts c).mark = ap (λ x. (m.kernel.accounts x).mark) same.1 in
        absurd (some (none_in s.records (omega (arith, all, own, low))))
    | inr other ↦ (marks d is_d).between (sym (ap (λ b. cond b (s.past + length s.records) (m.accepted d)) other.0) ∙ e)
  ];
}

module _ (before after : ℕ → ℕ) (m : Machine) (c waiting : ℕ) (rs : List Record) (marks : AreMarksOf before m) (is_c : is_client c ≡ true) (accepted : m.accepted c ≡ (m.kernel.accounts c).mark + waiting)
    (few : length rs ≤ waiting) (moved : AreMarksAfter before after c waiting rs) where
  abbrev next : Account
  next = account_after (m.kernel.accounts c) rs

  own : IsMarkOf (after c) ((m.kernel.accounts c).mark + length rs) (m.accepted c)
  own = elim (eqb_tells (length rs) waiting) [
    | inl all ↦ let to : after c ≡ 0 = moved.all all.1 in record { counted = omega (arith, to); between = λ e. to }
    | inr part ↦
        let to : after c ≡ before c + length rs = moved.some part.1 in
        let low : before c ≤ (m.kernel.accounts c).mark = (marks c is_c).counted in
        record { counted = omega (arith, to, low); between = λ e. absurd (part.1 (omega (arith, e, accepted))) }
  ]

  pub digested_marks : AreMarksOf after (digest m c rs)
  digested_marks d is_d = elim (eqb_tells d c) [
    | inl same ↦
        subst (λ e. IsMarkOf (after e) (at m.kernel.accounts c next e).mark (m.accepted e)) (sym same.1)
        (subst (λ (x : Account). IsMarkOf (after c) x.mark (m.accepted c)) (sym (there_if c next (m.kernel.accounts c))) own)
    | inr other ↦
        subst (λ n. IsMarkOf n (at m.kernel.accounts c next d).mark (m.accepted d)) (sym (moved.others d is_d other.1))
        (subst (λ (x : Account). IsMarkOf (before d) x.mark (m.accepted d)) (sym (same_if d c next (m.kernel.accounts d) other.1)) (marks d is_d))
  ]

pub undigested : (a : Account) (s : Sealed) (done waiting : ℕ) → IsWaiting s done waiting a.mark → undigested_sealed a s ≡ drop done s.records
undigested a s done waiting is =
    let behind : a.mark + waiting ≡ s.past + length s.records = is.behind in
    let many : length s.records ≡ done + waiting = is.many in
    let to : a.mark - s.past ≡ done = omega (arith, behind, many) in
    ap (λ n. drop n s.records) to
