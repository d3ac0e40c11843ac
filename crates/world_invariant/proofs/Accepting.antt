-- What the kernel accepted of each client's records suits the client's regions.
use Rattle.std.proofs.Common.{◌≡◌, ◌≢◌, ◌⊎◌, inl, inr, ℕ, suc, ◌+◌, ◌-◌, ◌≤◌, true, List, [], ◌∷◌, length, refl, ap, sym, ◌∙◌, arith}
use Rattle.std.proofs.lemmas.List.{length-append, length-drop}
use Rattle.posix_calls.specs.Operations.{is_client}
use Rattle.call_effects.specs.log_record.declared.format.Record.{Record}
use Rattle.world_invariant.specs.World.{Region, Wiped, Away, Back, Client, World, at}
use Rattle.world_invariant.specs.ClientParts.{IsMarked}
use Rattle.world_invariant.specs.Invariant.{IsCoherent}
use Rattle.world_invariant.specs.RegionSteps.{CanSeal, region_sealed, CanTakeBack, taken_back, CanWipeOther, other_wiped}
use Rattle.world_invariant.specs.KernelSteps.{CanDigest}
use Rattle.world_invariant.specs.Burial.{CanBury, client_buried, CanJoin, client_joined}
use Rattle.world_invariant.specs.Machine.{IsAcceptedOf, AreAccepted, sealed_of, CanAccept, accept, CanDigestNext}
use Rattle.world_invariant.proofs.Kernels.{each}

none_of : {A : Type 0} (xs : List A) → length xs ≡ 0 → xs ≡ []
none_of [] e = refl
none_of (x ∷ xs) e = absurd (let clash : suc (length xs) ≡ 0 = e in cc)

is_away : (other : Region) (sealed : List Record) → (other ≢ Away → sealed ≡ []) → sealed ≢ [] → other ≡ Away
is_away Away sealed none some = refl
is_away Wiped sealed none some = absurd (some (none (λ e. let clash : Wiped ≡ Away = e in cc)))
is_away Back sealed none some = absurd (some (none (λ e. let clash : Back ≡ Away = e in cc)))

-- a region that is not away was accepted whole before
before_it : (n : ℕ) (p : Client) → IsAcceptedOf n p → p.other ≢ Away → n ≡ p.past
before_it n p of back = elim of [ inl e ↦ e | inr both ↦ absurd (back both.0) ]

module _ (accepted : ℕ → ℕ) (w : World) (c : ℕ) (are : AreAccepted accepted w.clients) where
  -- another part of one client
  pub with_part : (p : Client) → (is_client c ≡ true → IsAcceptedOf (accepted c) p) → AreAccepted accepted (at w.clients c p)
  with_part p own = each w.clients c p (λ d (q : Client). is_client d ≡ true → IsAcceptedOf (accepted d) q) own (λ d other. are d)

  pub still : (p : Client) → p.past ≡ (w.clients c).past → p.sealed ≡ (w.clients c).sealed → p.other ≡ (w.clients c).other → AreAccepted accepted (at w.clients c p)
  still p past sealed other = with_part p (λ is. elim (are c is) [
    | inl e ↦ inl (e ∙ sym past)
    | inr both ↦ inr (other ∙ both.0, whole both.1)
  ])
    where
      whole : accepted c ≡ (w.clients c).past + length (w.clients c).sealed → accepted c ≡ p.past + length p.sealed
      whole e = let long : length p.sealed ≡ length (w.clients c).sealed = ap length sealed in omega (arith, e, past, long)

  pub after_seal : CanSeal w c → AreAccepted accepted (region_sealed w c).clients
  after_seal can = with_part _ (λ is. inl (before_it (accepted c) (w.clients c) (are c is) can.back))

  pub after_wipe : CanWipeOther w c → AreAccepted accepted (other_wiped w c).clients
  after_wipe can = with_part _ (λ is. inl (before_it (accepted c) (w.clients c) (are c is) (λ e. let clash : Back ≡ Away = sym can.back ∙ e in cc)))

module _ (accepted : ℕ → ℕ) (w : World) (c : ℕ) (h : IsCoherent w) where
  marks : is_client c ≡ true → IsMarked (w.kernel.accounts c).mark (w.clients c).past (w.clients c).sealed (w.clients c).other
  marks is = (h.stands c is).marked

  -- where a region is back, all before it are digested
  at_past : is_client c ≡ true → (w.clients c).other ≢ Away → (w.kernel.accounts c).mark ≡ (w.clients c).past
  at_past is back =
      let low : (w.clients c).past ≤ (w.kernel.accounts c).mark = (marks is).low in
      let high : (w.kernel.accounts c).mark ≤ (w.clients c).past + length (w.clients c).sealed = (marks is).high in
      let none : length (w.clients c).sealed ≡ 0 = ap length ((marks is).none back) in
      omega (arith, low, high, none)

  pub after_accept : AreAccepted accepted w.clients → CanAccept (record { kernel = w.kernel; accepted = accepted }) c (sealed_of (w.clients c)) → AreAccepted (accept (record { kernel = w.kernel; accepted = accepted }) c (sealed_of (w.clients c))).accepted w.clients
  after_accept are can = each accepted c ((w.clients c).past + length (w.clients c).sealed) (λ d (n : ℕ). is_client d ≡ true → IsAcceptedOf n (w.clients d))
      (λ is. inr (is_away (w.clients c).other (w.clients c).sealed (marks is).none can.some, refl)) (λ d other. are d)

  pub after_return : AreAccepted accepted w.clients → (w.kernel.accounts c).mark ≤ accepted c → CanTakeBack w c → AreAccepted accepted (taken_back w c).clients
  after_return are low can = with_part accepted w c are _ (λ is. elim (are c is) [
    | inl e ↦ absurd ((marks is).some can.away (none_of (w.clients c).sealed (nothing e)))
    | inr both ↦ inl (both.1 ∙ sym can.digested)
  ])
    where
      nothing : accepted c ≡ (w.clients c).past → length (w.clients c).sealed ≡ 0
      nothing e =
          let all : (w.kernel.accounts c).mark ≡ (w.clients c).past + length (w.clients c).sealed = can.digested in
          let few : (w.kernel.accounts c).mark ≤ accepted c = low in
          omega (arith, e, all, few)

  pub after_burial : AreAccepted accepted w.clients → CanBury w c → AreAccepted accepted (client_buried w c).clients
  after_burial are can = with_part accepted w c are _ (λ is. inl (before_it (accepted c) (w.clients c) (are c is) can.back ∙ sym (at_past is can.back)))

  pub after_join : AreAccepted accepted w.clients → CanJoin w c → AreAccepted accepted (client_joined w c).clients
  after_join are can = with_part accepted w c are _ (λ is. inl (before_it (accepted c) (w.clients c) (are c is) there ∙ sym (at_past is there)))
    where
      there : (w.clients c).other ≢ Away
      there e = let clash : Wiped ≡ Away = sym can.other ∙ e in cc

  pub next : AreAccepted accepted w.clients → is_client c ≡ true → (w.clients c).other ≡ Away → (w.kernel.accounts c).mark ≤ accepted c
      → CanAccept (record { kernel = w.kernel; accepted = accepted }) c (sealed_of (w.clients c)) ⊎ (accepted c ≡ (w.clients c).past + length (w.clients c).sealed)
  next are is away low = elim (are c is) [
    | inl e ↦ inl (record { client = is; some = (marks is).some away; before = before e; first = e })
    | inr both ↦ inr both.1
  ]
    where
      before : accepted c ≡ (w.clients c).past → (w.kernel.accounts c).mark ≡ (w.clients c).past
      before e =
          let behind : (w.clients c).past ≤ (w.kernel.accounts c).mark = (marks is).low in
          let few : (w.kernel.accounts c).mark ≤ accepted c = low in
          omega (arith, e, behind, few)

  pub may_digest : (first rest : List Record) → accepted c ≡ (w.clients c).past + length (w.clients c).sealed → CanDigest w c first rest → CanDigestNext (record { kernel = w.kernel; accepted = accepted }) c (sealed_of (w.clients c)) first rest
  may_digest first rest whole can = record { client = can.client; some = can.some; accepted = within; split = can.split }
    where
      within : (w.kernel.accounts c).mark + length first ≤ accepted c
      within =
          let behind : (w.clients c).past ≤ (w.kernel.accounts c).mark = (marks can.client).low in
          let before : (w.kernel.accounts c).mark ≤ (w.clients c).past + length (w.clients c).sealed = (marks can.client).high in
          let parts : length (w.clients c).sealed - ((w.kernel.accounts c).mark - (w.clients c).past) ≡ length first + length rest = sym (length-drop ((w.kernel.accounts c).mark - (w.clients c).past) (w.clients c).sealed) ∙ ap length can.split ∙ length-append first rest in
          omega (arith, whole, behind, before, parts)
