-- What a call that joins the record changes.
use Rattle.std.proofs.Common.{◌≡◌, ◌≢◌, ◌⊎◌, inl, inr, ℕ, ◌+◌, ◌≤◌, List, [], ◌∷◌, ◌++◌, length, take, true, false, refl, sym, ◌∙◌, ap, subst, arith, length-append}
use Rattle.std.specs.Bool.{MatchBool}
use Rattle.std.specs.Prelude.{nat_le}
use Rattle.std.proofs.lemmas.List.{take_all, take-append-le}
use Rattle.std.proofs.lemmas.Bool.{cases_Bool, and_from, and_left, le-leb, cond-true, cond-false, MatchBool-at_true, MatchBool-at_false}
use Rattle.tier_device.specs.declared.media.Tier.{Tier}
use Rattle.tier_device.specs.declared.media.Tier.TheVariants.{Fast, Block, Slow}
use Rattle.tier_device.specs.DeviceCall.{DeviceCall, Write, Fence}
use Rattle.tier_device.specs.Media.{overwritten, Torn, Puts, Keeps, Tears, TearsAll, Settles}
use Rattle.tier_device.specs.Record.{same_tier, hits, call_content, Leaves, replay_content, LeftAfter}
use Rattle.tier_device.specs.RecordLaws.{replayed_left}

pub same_self : (t : Tier) → same_tier t t ≡ true
same_self Fast = refl
same_self Block = refl
same_self Slow = refl

pub not_same : (t u : Tier) → u ≢ t → same_tier t u ≡ false
not_same Fast Fast apart = absurd (apart refl)
not_same Fast Block apart = refl
not_same Fast Slow apart = refl
not_same Block Fast apart = refl
not_same Block Block apart = absurd (apart refl)
not_same Block Slow apart = refl
not_same Slow Fast apart = refl
not_same Slow Block apart = refl
not_same Slow Slow apart = absurd (apart refl)

pub cases_Tier : (u t : Tier) → (u ≡ t) ⊎ (u ≢ t)
cases_Tier Fast Fast = inl refl
cases_Tier Fast Block = inr (λ e. cc)
cases_Tier Fast Slow = inr (λ e. cc)
cases_Tier Block Fast = inr (λ e. cc)
cases_Tier Block Block = inl refl
cases_Tier Block Slow = inr (λ e. cc)
cases_Tier Slow Fast = inr (λ e. cc)
cases_Tier Slow Block = inr (λ e. cc)
cases_Tier Slow Slow = inl refl

pub replayed_push : (tier : Tier) (seen : List ℕ) (xs : List DeviceCall) (x : DeviceCall) → replay_content tier seen (xs ++ x ∷ []) ≡ call_content tier (replay_content tier seen xs) x
replayed_push tier seen [] x = refl
replayed_push tier seen (y ∷ xs) x = replayed_push tier (call_content tier seen y) xs x

-- both ways
to_push : (tier : Tier) (seen : List ℕ) (Before : List ℕ → Type 0) (xs : List DeviceCall) (x : DeviceCall) (c : List ℕ) → Leaves tier (replay_content tier seen xs) (LeftAfter tier seen Before xs) x c → LeftAfter tier seen Before (xs ++ x ∷ []) c
to_push tier seen Before [] x c left = left
to_push tier seen Before (y ∷ xs) x c left = to_push tier (call_content tier seen y) (Leaves tier seen Before y) xs x c left

of_push : (tier : Tier) (seen : List ℕ) (Before : List ℕ → Type 0) (xs : List DeviceCall) (x : DeviceCall) (c : List ℕ) → LeftAfter tier seen Before (xs ++ x ∷ []) c → Leaves tier (replay_content tier seen xs) (LeftAfter tier seen Before xs) x c
of_push tier seen Before [] x c left = left
of_push tier seen Before (y ∷ xs) x c left = of_push tier (call_content tier seen y) (Leaves tier seen Before y) xs x c left

pub keeps_same : (now : ℕ) (left : ℕ → Tier → List ℕ → Type 0) → Keeps now now left left
keeps_same now left = record { later = omega arith; at_most_one = omega arith; nothing_else = λ m t c le l. l; keeps = λ m t c le l. l }

module _ (first : Tier → List ℕ) where
  abbrev From : Tier → List ℕ → Type 0
  From t d = d ≡ first t

  -- what a stop after the first k calls may leave
  abbrev pub LeftAt : List DeviceCall → ℕ → Tier → List ℕ → Type 0
  LeftAt xs k t c = LeftAfter t (first t) (From t) (take k xs) c

  module _ (xs ys : List DeviceCall) (x : DeviceCall) (grown : ys ≡ xs ++ x ∷ []) where
    long : length ys ≡ length xs + 1
    long = ap length grown ∙ length-append xs (x ∷ [])

    front : (k : ℕ) → k ≤ length xs → take k ys ≡ take k xs
    front k le = ap (take k) grown ∙ take-append-le k xs (x ∷ []) le

    to_now : (t : Tier) (c : List ℕ) → Leaves t (replay_content t (first t) xs) (LeftAfter t (first t) (From t) xs) x c → LeftAt ys (length ys) t c
    to_now t c left =
        subst (λ (l : List DeviceCall). LeftAfter t (first t) (From t) l c) (sym (take_all (length ys) ys (omega arith) ∙ grown)) (to_push t (first t) (From t) xs x c left)

    of_now : (t : Tier) (c : List ℕ) → LeftAt ys (length ys) t c → Leaves t (replay_content t (first t) xs) (LeftAfter t (first t) (From t) xs) x c
    of_now t c left =
        of_push t (first t) (From t) xs x c (subst (λ (l : List DeviceCall). LeftAfter t (first t) (From t) l c) (take_all (length ys) ys (omega arith) ∙ grown) left)

    pub keeps_push : Keeps (length xs) (length ys) (LeftAt xs) (LeftAt ys)
    keeps_push = record {
      later = omega (arith, long);
      at_most_one = omega (arith, long);
      nothing_else = λ m t c le l. subst (λ (q : List DeviceCall). LeftAfter t (first t) (From t) q c) (front m le) l;
      keeps = λ m t c le l. subst (λ (q : List DeviceCall). LeftAfter t (first t) (From t) q c) (sym (front m le)) l;
    }

  of_was : (xs : List DeviceCall) (t : Tier) (c : List ℕ) → LeftAt xs (length xs) t c → LeftAfter t (first t) (From t) xs c
  of_was xs t c left = subst (λ (l : List DeviceCall). LeftAfter t (first t) (From t) l c) (take_all (length xs) xs (omega arith)) left

  to_was : (xs : List DeviceCall) (t : Tier) (c : List ℕ) → LeftAfter t (first t) (From t) xs c → LeftAt xs (length xs) t c
  to_was xs t c left = subst (λ (l : List DeviceCall). LeftAfter t (first t) (From t) l c) (sym (take_all (length xs) xs (omega arith))) left

  -- a write that changes nothing
  pub tears_same : (xs ys : List DeviceCall) → ys ≡ xs → (tier : Tier) (at n : ℕ) → Tears tier at n (LeftAt xs (length xs)) (LeftAt ys (length ys))
  tears_same xs ys same tier at n =
      subst (λ (l : List DeviceCall). Tears tier at n (LeftAt xs (length xs)) (LeftAt l (length l))) (sym same)
      (record { here = λ c left. (c, left, record { before = refl; after = refl; same_length = refl }); others = λ u c apart left. left })

  module _ (xs ys : List DeviceCall) (tier : Tier) (at : ℕ) (v : List ℕ) (grown : ys ≡ xs ++ Write tier at v ∷ []) (fits : at + length v ≤ length (replay_content tier (first tier) xs)) where
    hit : hits tier (replay_content tier (first tier) xs) tier at v ≡ true
    hit = and_from (same_tier tier tier) (nat_le (at + length v) (length (replay_content tier (first tier) xs))) (same_self tier) (le-leb _ _ fits)

    miss : (u : Tier) → u ≢ tier → hits u (replay_content u (first u) xs) tier at v ≡ false
    miss u apart = and_left (same_tier tier u) (nat_le (at + length v) (length (replay_content u (first u) xs))) (not_same tier u apart)

    pub write_shows : replay_content tier (first tier) ys ≡ overwritten (replay_content tier (first tier) xs) at v
    write_shows =
        ap (replay_content tier (first tier)) grown ∙ replayed_push tier (first tier) xs (Write tier at v)
        ∙ cond-true (hits tier (replay_content tier (first tier) xs) tier at v) (overwritten (replay_content tier (first tier) xs) at v) (replay_content tier (first tier) xs) hit

    pub write_shows_else : (u : Tier) → u ≢ tier → replay_content u (first u) ys ≡ replay_content u (first u) xs
    write_shows_else u apart =
        ap (replay_content u (first u)) grown ∙ replayed_push u (first u) xs (Write tier at v)
        ∙ cond-false (hits u (replay_content u (first u) xs) tier at v) (overwritten (replay_content u (first u) xs) at v) (replay_content u (first u) xs) (miss u apart)

    -- so what is there is what the longer record shows
    pub write_kept : (old new : Tier → List ℕ) → ((u : Tier) → old u ≡ replay_content u (first u) xs) → Puts tier (overwritten (old tier) at v) old new → (u : Tier) → new u ≡ replay_content u (first u) ys
    write_kept old new is puts u = elim (cases_Tier u tier) [
      | inl same ↦
          subst (λ w. new w ≡ replay_content w (first w) ys) (sym same) (puts.here ∙ ap (λ (s : List ℕ). overwritten s at v) (is tier) ∙ sym write_shows)
      | inr apart ↦ puts.others u apart ∙ is u ∙ sym (write_shows_else u apart)
    ]

    abbrev TornOf : Tier → List ℕ → Type 0
    TornOf u c = (d : List ℕ) × LeftAfter u (first u) (From u) xs d × Torn at (length v) d c

    pub write_tears : Tears tier at (length v) (LeftAt xs (length xs)) (LeftAt ys (length ys))
    write_tears = record {
      here = λ c left.
          let torn = MatchBool-at_true (TornOf tier c) (LeftAfter tier (first tier) (From tier) xs c) hit (of_now xs ys (Write tier at v) grown tier c left) in
          (torn.0, to_was xs tier torn.0 torn.1, torn.2);
      others = λ u c apart left.
          to_was xs u c (MatchBool-at_false (TornOf u c) (LeftAfter u (first u) (From u) xs c) (miss u apart) (of_now xs ys (Write tier at v) grown u c left));
    }

    pub write_tears_all : TearsAll tier at (length v) (LeftAt xs (length xs)) (LeftAt ys (length ys))
    write_tears_all = record {
      here = λ d c was torn.
          to_now xs ys (Write tier at v) grown tier c (subst (λ b. MatchBool b (TornOf tier c) (LeftAfter tier (first tier) (From tier) xs c)) (sym hit) (d, of_was xs tier d was, torn));
      others = λ u c apart was.
          to_now xs ys (Write tier at v) grown u c (subst (λ b. MatchBool b (TornOf u c) (LeftAfter u (first u) (From u) xs c)) (sym (miss u apart)) (of_was xs u c was));
    }

  module _ (xs ys : List DeviceCall) (tier : Tier) (grown : ys ≡ xs ++ Fence tier ∷ []) where
    pub fence_shows : (u : Tier) → replay_content u (first u) ys ≡ replay_content u (first u) xs
    fence_shows u = ap (replay_content u (first u)) grown ∙ replayed_push u (first u) xs (Fence tier)

    pub fence_leaves : (u : Tier) (c : List ℕ) → LeftAt ys (length ys) u c → LeftAt xs (length xs) u c
    fence_leaves u c left =
        let now = of_now xs ys (Fence tier) grown u c left in
        elim (cases_Bool (same_tier tier u)) [
          | inl is ↦
              let settled = MatchBool-at_true (c ≡ replay_content u (first u) xs) (LeftAfter u (first u) (From u) xs c) is now in
              to_was xs u c (subst (LeftAfter u (first u) (From u) xs) (sym settled) (replayed_left u (first u) (From u) xs refl))
          | inr is ↦ to_was xs u c (MatchBool-at_false (c ≡ replay_content u (first u) xs) (LeftAfter u (first u) (From u) xs c) is now)
        ]

    pub fence_settles : (seen : Tier → List ℕ) → seen tier ≡ replay_content tier (first tier) xs → Settles tier seen (LeftAt xs (length xs)) (LeftAt ys (length ys))
    fence_settles seen is = record {
      here = λ c left. MatchBool-at_true (c ≡ replay_content tier (first tier) xs) (LeftAfter tier (first tier) (From tier) xs c) (same_self tier) (of_now xs ys (Fence tier) grown tier c left) ∙ sym is;
      others = λ u c apart was.
          to_now xs ys (Fence tier) grown u c
          (subst (λ b. MatchBool b (c ≡ replay_content u (first u) xs) (LeftAfter u (first u) (From u) xs c)) (sym (not_same tier u apart)) (of_was xs u c was));
    }
