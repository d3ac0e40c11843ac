-- What is open, and where descriptors come and go.
use Rattle.std.proofs.Common.{◌≡◌, ◌⊎◌, inl, inr, ℕ, ◌+◌, ◌-◌, ◌<◌, ◌≤◌, refl, Some, None, Option, cond, ap, sym, ◌∙◌, subst, true, false, arith}
use Rattle.std.proofs.lemmas.Bool.{eq-eqb}
use Rattle.std.proofs.lemmas.Bool.Decides.{eqb_tells}
use Rattle.posix_calls.specs.Tree.{Descriptors, set_own, with_own, is_open, any_up_to, refers_to}
use Rattle.posix_calls.specs.declared.descriptor.Descriptor.{Descriptor}
use Rattle.posix_calls.proofs.Sums.{any_there, any_is}

-- what is open at a number of a client is open
pub open_there : (d : Descriptors) (c n : ℕ) (o : Descriptor) → 1 ≤ c → c ≤ 8 → n < 32 → d c n ≡ Some o → is_open d o.inode ≡ true
unfolding is_open
open_there d c n o low high few is =
    any_there 8 c (λ x. any_up_to 32 (λ m. refers_to o.inode (d x (m - 1)))) low high
    (any_there 32 (n + 1) (λ m. refers_to o.inode (d c (m - 1))) (omega arith) (omega (arith, few))
    (ap (λ m. refers_to o.inode (d c m)) (let e : n + 1 - 1 ≡ n = omega arith in e) ∙ ap (refers_to o.inode) is ∙ eq-eqb o.inode o.inode refl))

-- where it is open
pub record IsOpenAt (d : Descriptors) (i : ℕ) : Type 0 where
  pub client : ℕ
  pub number : ℕ
  pub low : 1 ≤ client
  pub high : client ≤ 8
  pub few : number < 32
  pub what : Descriptor
  pub is : d client number ≡ Some what
  pub inode : what.inode ≡ i

refers_is : (i : ℕ) (o : Option Descriptor) → refers_to i o ≡ true → (x : Descriptor) × (o ≡ Some x) × (x.inode ≡ i)
refers_is i None e = absurd (cc)
refers_is i (Some x) e = (x, refl, elim (eqb_tells x.inode i) [ inl same ↦ same.1 | inr apart ↦ absurd (let clash : true ≡ false = sym e ∙ apart.0 in cc) ])

pub open_at : (d : Descriptors) (i : ℕ) → is_open d i ≡ true → IsOpenAt d i
unfolding is_open
open_at d i e =
    let c = any_is 8 (λ x. any_up_to 32 (λ m. refers_to i (d x (m - 1)))) e in
    let n = any_is 32 (λ m. refers_to i (d c.k (m - 1))) c.passes in
    let x = refers_is i (d c.k (n.k - 1)) n.passes in
    let l = n.low in
    let h = n.high in
    record { client = c.k; number = n.k - 1; low = c.low; high = c.high; few = omega (arith, l, h); what = x.0; is = x.1; inode = x.2 }

pub is_open_by : (d : Descriptors) (i : ℕ) → IsOpenAt d i → is_open d i ≡ true
is_open_by d i at = subst (λ j. is_open d j ≡ true) at.inode (open_there d at.client at.number at.what at.low at.high at.few at.is)

-- ---- one number changes

pub own_there : (held : Descriptors) (client number : ℕ) (what : Option Descriptor) → with_own held client (set_own (held client) number what) client number ≡ what
own_there held client number what =
    ap (λ b. cond b (set_own (held client) number what number) (held client number)) (eq-eqb client client refl)
    ∙ ap (λ b. cond b what (held client number)) (eq-eqb number number refl)

-- what stands at a number after a change is what was put there, or stood there before
pub record IsChanged (held : Descriptors) (client number : ℕ) (what : Option Descriptor) (c n : ℕ) : Type 0 where
  pub same_client : c ≡ client
  pub same_number : n ≡ number
  pub is : with_own held client (set_own (held client) number what) c n ≡ what

pub own_cases : (held : Descriptors) (client number : ℕ) (what : Option Descriptor) (c n : ℕ)
    → IsChanged held client number what c n ⊎ (with_own held client (set_own (held client) number what) c n ≡ held c n)
own_cases held client number what c n =
    elim (eqb_tells c client) [
      | inl at_c ↦ elim (eqb_tells n number) [
        | inl at_n ↦ inl (record {
          same_client = at_c.1;
          same_number = at_n.1;
          is = ap (λ b. cond b (set_own (held client) number what n) (held c n)) at_c.0 ∙ ap (λ b. cond b what (held client n)) at_n.0;
        })
        | inr off ↦ inr (ap (λ b. cond b (set_own (held client) number what n) (held c n)) at_c.0 ∙ ap (λ b. cond b what (held client n)) off.0 ∙ ap (λ k. held k n) (sym at_c.1))
      ]
      | inr off ↦ inr (ap (λ b. cond b (set_own (held client) number what n) (held c n)) off.0)
    ]

-- where another number stands nothing changes
pub own_other : (held : Descriptors) (client number : ℕ) (what : Option Descriptor) (c n : ℕ) (o : Descriptor) → held c n ≡ Some o → (held client number ≡ Some o → ⊥) → with_own held client (set_own (held client) number what) c n ≡ Some o
own_other held client number what c n o is other = elim (own_cases held client number what c n) [
  | inl at ↦ absurd (other (ap (λ k. held k number) (sym at.same_client) ∙ ap (held c) (sym at.same_number) ∙ is))
  | inr same ↦ same ∙ is
]
