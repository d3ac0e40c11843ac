-- Questions one after the other: none is asked after twice, since what was told is known.
use Rattle.std.proofs.Common.{◌≡◌, ◌<◌, inl, inr, ℕ, zero, suc, ◌||◌, true, false, cond, not, List, [], ◌∷◌, ◌++◌, length, get_or, Option, Some, None, refl, ap, sym, ◌∙◌, arith}
use Rattle.std.specs.Prelude.{is_some}
use Rattle.std.specs.Ordering.{nat_cmp}
use Rattle.std.specs.BTreeMap.{get}
use Rattle.std.specs.List.{AllByRecursion}
use Rattle.std.proofs.lemmas.Bool.{true≢false}
use Rattle.std.proofs.lemmas.Bool.Decides.{eqb_tells}
use Rattle.update_log.specs.file_graph.declared.effect.Effect.{Effect}
use Rattle.update_log.specs.file_graph.Graph.{is_among, subjects, touches}
use Rattle.update_log.specs.log_record.declared.format.Record.{Record}
use Rattle.shared_area.specs.call_effects.NodeView.{NodeView}
use Rattle.shared_area.proofs.call_effects_lemmas.KnownCopies.{some_after}
use Rattle.coalescer.specs.Records.{effects_in}
use Rattle.shared_area.specs.record_validation.KnownNodes.{Known, is_unknown}
use Rattle.shared_area.specs.record_validation.Row.{known_by, with_known}
use Rattle.shared_area.specs.record_validation.declared.verdict.Verdict.{Verdict}
use Rattle.shared_area.specs.record_validation.declared.verdict.Verdict.TheVariants as verdict
use Rattle.digester.specs.Questions.{AreAmong, AskedKnown, AskedOnce}
use Rattle.digester.proofs.Covered.{touched_first, touched_later}
use Rattle.digester.proofs.Known.{among_joined, either_of, or_of}

-- ---- what is touched

-- the inodes of the effect at a place
pub touched_at : (es : List Effect) (k : ℕ) (e : Effect) → k < length es → e ≡ get_or es k e → AreAmong (subjects e) (touches es)
touched_at [] k e inside is i among = absurd (omega (arith, inside))
touched_at (x ∷ es) zero e inside is i among = among_joined i (subjects x) (touches es) ∙ either_of (is_among i (subjects x)) (is_among i (touches es)) (ap (λ (y : Effect). is_among i (subjects y)) (sym is) ∙ among)
touched_at (x ∷ es) (suc k) e inside is i among = among_joined i (subjects x) (touches es) ∙ or_of (is_among i (subjects x)) (is_among i (touches es)) (touched_at es k e (omega (arith, inside)) is i among)

-- those of the record at a place
pub touched_in : (rs : List Record) (k : ℕ) (r : Record) → k < length rs → r ≡ get_or rs k r → AreAmong (touches r.effects) (touches (effects_in rs))
touched_in [] k r inside is i among = absurd (omega (arith, inside))
touched_in (x ∷ rs) zero r inside is i among = touched_first x rs i (ap (λ (y : Record). is_among i (touches y.effects)) (sym is) ∙ among)
touched_in (x ∷ rs) (suc k) r inside is i among = touched_later x rs i (touched_in rs k r (omega (arith, inside)) is i among)

-- ---- what is known

still_some : (v : Verdict) (r : Record) (known : ℕ → Option (Option NodeView)) (i : ℕ) → is_some (known_by v r known i) ≡ is_some (known i)
still_some (verdict.Good units) r known i = some_after r.effects known i
still_some verdict.Bad r known i = refl
still_some (verdict.Unknown asked) r known i = refl

-- a test forgets nothing
pub kept : (m n : Known) (v : Verdict) (r : Record) → get nat_cmp n ≡ known_by v r (get nat_cmp m) → (i : ℕ) → is_unknown m i ≡ false → is_unknown n i ≡ false
kept m n v r is i known = ap (λ (k : ℕ → Option (Option NodeView)). not (is_some (k i))) is ∙ ap not (still_some v r (get nat_cmp m) i) ∙ known

-- what is learned is known, and all that was
pub learned_here : (m n : Known) (inode : ℕ) (v : Option NodeView) → ((i : ℕ) → get nat_cmp n i ≡ with_known inode v (get nat_cmp m) i) → is_unknown n inode ≡ false
learned_here m n inode v is = elim (eqb_tells inode inode) [
  | inl same ↦ ap (λ o. not (is_some o)) (is inode ∙ ap (λ b. cond b (Some v) (get nat_cmp m inode)) same.0)
  | inr apart ↦ absurd (apart.1 refl)
]

pub learned_others : (m n : Known) (inode : ℕ) (v : Option NodeView) → ((i : ℕ) → get nat_cmp n i ≡ with_known inode v (get nat_cmp m) i) → (i : ℕ) → is_unknown m i ≡ false → is_unknown n i ≡ false
learned_others m n inode v is i known = elim (eqb_tells i inode) [
  | inl same ↦ ap (λ o. not (is_some o)) (is i ∙ ap (λ b. cond b (Some v) (get nat_cmp m i)) same.0)
  | inr apart ↦ ap (λ o. not (is_some o)) (is i ∙ ap (λ b. cond b (Some v) (get nat_cmp m i)) apart.0) ∙ known
]

-- ---- questions

-- an unknown inode is none of some that are known
apart_from : (m : Known) (inode : ℕ) (is : List ℕ) → is_unknown m inode ≡ true → AllByRecursion (λ i. is_unknown m i ≡ false) is → is_among inode is ≡ false
apart_from m inode [] unknown known = refl
apart_from m inode (d ∷ is) unknown known = elim (eqb_tells d inode) [
  | inl same ↦ absurd (true≢false (sym unknown ∙ ap (is_unknown m) (sym same.1) ∙ known.0))
  | inr apart ↦ ap (λ b. b || is_among inode is) apart.0 ∙ apart_from m inode is unknown known.1
]

still_known : (m n : Known) (is : List ℕ) → ((i : ℕ) → is_unknown m i ≡ false → is_unknown n i ≡ false) → AllByRecursion (λ i. is_unknown m i ≡ false) is → AllByRecursion (λ i. is_unknown n i ≡ false) is
still_known m n [] others known = tt
still_known m n (d ∷ is) others known = (others d known.0, still_known m n is others known.1)

module _ {S E : Type 0} (asked : S → S → List ℕ → Option E → Type 0) where
  -- nothing more is asked
  pub known_once : (m : Known) (among : List ℕ) (first now : S) → AskedKnown asked m among first now → AskedOnce asked among first now None
  known_once m among first now before = record { inodes = before.inodes; needed = before.needed; once = before.once; led = before.led }

  pub known_on : (m n : Known) (among : List ℕ) (first now : S) → ((i : ℕ) → is_unknown m i ≡ false → is_unknown n i ≡ false) → AskedKnown asked m among first now → AskedKnown asked n among first now
  known_on m n among first now others before = record {
    inodes = before.inodes;
    needed = before.needed;
    once = before.once;
    known = still_known m n before.inodes others before.known;
    led = before.led;
  }

  -- one more question
  pub one_more : ((first next last : S) (before behind : List ℕ) (refusal : Option E) → asked first next before None → asked next last behind refusal → asked first last (behind ++ before) refusal) → (m : Known) (among : List ℕ) (first now next : S) (inode : ℕ) (refusal : Option E) → is_unknown m inode ≡ true → is_among inode among ≡ true → asked now next (inode ∷ []) refusal → AskedKnown asked m among first now → AskedOnce asked among first next refusal
  one_more more m among first now next inode refusal unknown needed one before = record {
    inodes = inode ∷ before.inodes;
    needed = (needed, before.needed);
    once = (apart_from m inode before.inodes unknown before.known, before.once);
    led = more first now next before.inodes (inode ∷ []) refusal before.led one;
  }

  pub one_known : ((first next last : S) (before behind : List ℕ) (refusal : Option E) → asked first next before None → asked next last behind refusal → asked first last (behind ++ before) refusal) → (m n : Known) (among : List ℕ) (first now next : S) (inode : ℕ) → is_unknown m inode ≡ true → is_unknown n inode ≡ false → ((i : ℕ) → is_unknown m i ≡ false → is_unknown n i ≡ false) → is_among inode among ≡ true → asked now next (inode ∷ []) None → AskedKnown asked m among first now → AskedKnown asked n among first next
  one_known more m n among first now next inode unknown here others needed one before = record {
    inodes = inode ∷ before.inodes;
    needed = (needed, before.needed);
    once = (apart_from m inode before.inodes unknown before.known, before.once);
    known = (here, still_known m n before.inodes others before.known);
    led = more first now next before.inodes (inode ∷ []) None before.led one;
  }

  -- a first question is still to come
  pub none_known : (m : Known) (among : List ℕ) (first : S) → asked first first [] None → AskedKnown asked m among first first
  none_known m among first none = record { inodes = []; needed = tt; once = tt; known = tt; led = none }

  pub none_once : (among : List ℕ) (first : S) → asked first first [] None → AskedOnce asked among first first None
  none_once among first none = record { inodes = []; needed = tt; once = tt; led = none }
