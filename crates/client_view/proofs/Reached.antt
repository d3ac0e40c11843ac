-- Which blocks of files a record changes, and which it leaves.
use Rattle.std.proofs.Common.{◌≡◌, ◌<◌, ◌≤◌, inl, inr, ◌⊎◌, ℕ, zero, suc, ◌+◌, ◌-◌, ◌*◌, Bool, true, false, cond, List, [], ◌∷◌, ◌++◌, length, take, drop, replicate, get_or, Option, None, Some, refl, ap, sym, ◌∙◌, subst, arith}
use Rattle.std.specs.Prelude.{◌==◌, ◌&&◌, ◌||◌, nat_lt}
use Rattle.std.specs.List.{AllByRecursion}
use Rattle.std.proofs.lemmas.List.{take_all, drop_all}
use Rattle.std.proofs.lemmas.Bool.Decides.{nat_tests}
use Rattle.posix_calls.specs.Content.{with_bytes}
use Rattle.posix_calls.specs.declared.limits.TheConstants.{UNIT_BYTES}
use Rattle.client_plan.specs.file_graph.Graph.{is_among, subjects}
use Rattle.client_plan.specs.file_graph.Subject.{subject}
use Rattle.client_plan.specs.file_graph.declared.effect.Effect.{Effect}
use Rattle.client_plan.specs.file_graph.declared.effect.Effect.TheVariants as effect
use Rattle.client_plan.specs.log_record.declared.format.Record.{Record}
use Rattle.client_plan.specs.log_record.Grammar.{IsRecord}
use Rattle.client_plan.specs.call_effects.Blocks.{block_acted, block_written}
use Rattle.record_validation.proofs.Steps.{on_one}
use Rattle.client_view.specs.RecordReach.{AreReaches, IsReachOf}
use Rattle.client_view.specs.declared.record_reach.RecordReach.{RecordReach}
use Rattle.client_view.specs.declared.record_reach.RecordReach.TheVariants as reach
use Rattle.client_view.proofs.Buffers.{behind_all, none_more}

-- ---- a write that leaves a block

nothing_put : (old : List ℕ) → with_bytes 0 [] old ≡ old
nothing_put old = let none : 0 - length old ≡ 0 = omega arith in ap (λ n. ((take 0 old ++ replicate n 0) ++ []) ++ drop (0 + 0) old) none

pub ends_before : (at b : ℕ) (new old : List ℕ) → length old ≤ UNIT_BYTES → at + length new ≤ UNIT_BYTES * b → block_written at new b old ≡ old
ends_before at b new old short less =
    let first : at - UNIT_BYTES * b ≡ 0 = omega (arith, less) in
    let none : drop (UNIT_BYTES * b - at) new ≡ [] = drop_all (UNIT_BYTES * b - at) new (omega (arith, less)) in
    ap (λ n. take UNIT_BYTES (with_bytes n (drop (UNIT_BYTES * b - at) new) old)) first
    ∙ ap (λ xs. take UNIT_BYTES (with_bytes 0 xs old)) none
    ∙ ap (take UNIT_BYTES) (nothing_put old)
    ∙ take_all UNIT_BYTES old short

pub begins_behind : (at b : ℕ) (new old : List ℕ) → length old ≤ UNIT_BYTES → UNIT_BYTES ≤ length old → UNIT_BYTES * b + UNIT_BYTES ≤ at → block_written at new b old ≡ old
begins_behind at b new old short whole behind =
    behind_all UNIT_BYTES (at - UNIT_BYTES * b) (drop (UNIT_BYTES * b - at) new) old short (omega (arith, behind))
    ∙ none_more UNIT_BYTES (length old) whole (take UNIT_BYTES old)
    ∙ take_all UNIT_BYTES old short

-- ---- one effect

unless : (t : Bool) (x y : Option (List ℕ)) → (t ≡ true → x ≡ y) → cond t x y ≡ y
unless true x y same = same refl
unless false x y same = refl

low : (x y : ℕ) → nat_lt x y ≡ false → y ≤ x
low x y is = grind (arith, nat_tests, is)

both_false : (a b : Bool) → (a || b) ≡ false → (a ≡ false) × (b ≡ false)
both_false true b e = absurd (cc)
both_false false b e = (refl, e)

parts : (a b : Bool) → (a && b) ≡ false → (a ≡ false) ⊎ (b ≡ false)
parts true b e = inr e
parts false b e = inl refl

left : (at end b n : ℕ) (t : Bool) → (t && (nat_lt (UNIT_BYTES * b) end && (nat_lt at (UNIT_BYTES * b + UNIT_BYTES) || nat_lt n UNIT_BYTES))) ≡ false → t ≡ true → (end ≤ UNIT_BYTES * b) ⊎ ((UNIT_BYTES * b + UNIT_BYTES ≤ at) × (UNIT_BYTES ≤ n))
left at end b n t is yes' = elim (parts (nat_lt (UNIT_BYTES * b) end) (nat_lt at (UNIT_BYTES * b + UNIT_BYTES) || nat_lt n UNIT_BYTES) (ap (λ x. x && (nat_lt (UNIT_BYTES * b) end && (nat_lt at (UNIT_BYTES * b + UNIT_BYTES) || nat_lt n UNIT_BYTES))) (sym yes') ∙ is)) [
  | inl less ↦ inl (low (UNIT_BYTES * b) end less)
  | inr more ↦ let both = both_false (nat_lt at (UNIT_BYTES * b + UNIT_BYTES)) (nat_lt n UNIT_BYTES) more in inr (low at (UNIT_BYTES * b + UNIT_BYTES) both.0, low n UNIT_BYTES both.1)
]

pub written_reach : (j at : ℕ) (new : List ℕ) → IsReachOf (effect.Bytes j at new ∷ []) (reach.Written j at (at + length new))
written_reach j at new i b None short is = unless (is_among i (j ∷ [])) None None (λ same. refl)
written_reach j at new i b (Some block) short is =
    ap (λ t. cond t (Some (block_written at new b block)) (Some block)) (on_one i j)
    ∙ unless (j == i) (Some (block_written at new b block)) (Some block) (λ same. ap (λ xs. Some xs) (elim (left at (at + length new) b (length block) (j == i) is same) [
      | inl less ↦ ends_before at b new block short less
      | inr more ↦ begins_behind at b new block short more.1 more.0
    ]))

-- a Swap changes no block
none_swapped : (d : ℕ) (a : List ℕ) (e : ℕ) (n : List ℕ) (s : RecordReach) → IsReachOf (effect.Swap d a e n ∷ []) s
none_swapped d a e n s i b block short is = unless (is_among i (d ∷ e ∷ [])) block block (λ same. refl)

alone_reach : (e : Effect) (j : ℕ) → subjects e ≡ j ∷ [] → IsReachOf (e ∷ []) (reach.OneInode j)
alone_reach e j alone i b block short is = ap (λ t. cond t (block_acted e b block) block) (ap (is_among i) alone ∙ on_one i j ∙ is)

pub subject_reach : (e : Effect) → IsReachOf (e ∷ []) (reach.OneInode (subject e))
subject_reach (effect.Swap d a e n) = none_swapped d a e n (reach.OneInode d)
subject_reach (effect.Make i k) = alone_reach (effect.Make i k) i refl
subject_reach (effect.Enter d i k name) = alone_reach (effect.Enter d i k name) d refl
subject_reach (effect.Leave d name) = alone_reach (effect.Leave d name) d refl
subject_reach (effect.Names i n) = alone_reach (effect.Names i n) i refl
subject_reach (effect.Size i size) = alone_reach (effect.Size i size) i refl
subject_reach (effect.Bytes i at new) = alone_reach (effect.Bytes i at new) i refl
subject_reach (effect.Drop i) = alone_reach (effect.Drop i) i refl

-- ---- records and their reaches

pub reach_at : (ss : List RecordReach) (rs : List Record) (k : ℕ) (d : RecordReach) (r : Record) → AreReaches ss rs → k < length rs → r ≡ get_or rs k r → IsReachOf r.effects (get_or ss k d)
reach_at [] [] k d r are inside is = absurd (omega arith)
reach_at [] (x ∷ rs) k d r are inside is = absurd are
reach_at (y ∷ ss) [] k d r are inside is = absurd are
reach_at (y ∷ ss) (x ∷ rs) zero d r are inside is = subst (λ (z : Record). IsReachOf z.effects y) (sym is) are.0
reach_at (y ∷ ss) (x ∷ rs) (suc k) d r are inside is = reach_at ss rs k d r are.1 (omega arith) is

pub as_many : (ss : List RecordReach) (rs : List Record) → AreReaches ss rs → length ss ≡ length rs
as_many [] [] are = refl
as_many [] (x ∷ rs) are = absurd are
as_many (y ∷ ss) [] are = absurd are
as_many (y ∷ ss) (x ∷ rs) are = ap (λ n. suc n) (as_many ss rs are.1)

pub one_more : (ss : List RecordReach) (rs : List Record) (s : RecordReach) (r : Record) → AreReaches ss rs → IsReachOf r.effects s → AreReaches (ss ++ s ∷ []) (rs ++ r ∷ [])
one_more [] [] s r are is = (is, tt)
one_more [] (x ∷ rs) s r are is = absurd are
one_more (y ∷ ss) [] s r are is = absurd are
one_more (y ∷ ss) (x ∷ rs) s r are is = (are.0, one_more ss rs s r are.1 is)

pub behind_some : (n : ℕ) (ss : List RecordReach) (rs : List Record) → AreReaches ss rs → AreReaches (drop n ss) (drop n rs)
behind_some zero ss rs are = are
behind_some (suc n) [] [] are = are
behind_some (suc n) [] (x ∷ rs) are = absurd are
behind_some (suc n) (y ∷ ss) [] are = absurd are
behind_some (suc n) (y ∷ ss) (x ∷ rs) are = behind_some n ss rs are.1

pub dropped : (n : ℕ) (ss xs : List RecordReach) (rs ys : List Record) → xs ≡ drop n ss → ys ≡ drop n rs → AreReaches ss rs → AreReaches xs ys
dropped n ss xs rs ys reaches records are = subst (λ (zs : List RecordReach). AreReaches zs ys) (sym reaches) (subst (λ (zs : List Record). AreReaches (drop n ss) zs) (sym records) (behind_some n ss rs are))

pub pushed : (ss xs : List RecordReach) (rs ys : List Record) (s : RecordReach) (r : Record) → xs ≡ ss ++ s ∷ [] → ys ≡ rs ++ r ∷ [] → AreReaches ss rs → IsReachOf r.effects s → AreReaches xs ys
pushed ss xs rs ys s r reaches records are is = subst (λ (zs : List RecordReach). AreReaches zs ys) (sym reaches) (subst (λ (zs : List Record). AreReaches (ss ++ s ∷ []) zs) (sym records) (one_more ss rs s r are is))

all_and : (rs : List Record) (r : Record) → AllByRecursion IsRecord rs → IsRecord r → AllByRecursion IsRecord (rs ++ r ∷ [])
all_and [] r all is = (is, tt)
all_and (x ∷ rs) r all is = (all.0, all_and rs r all.1 is)

pub all_pushed : (rs ys : List Record) (r : Record) → ys ≡ rs ++ r ∷ [] → AllByRecursion IsRecord rs → IsRecord r → AllByRecursion IsRecord ys
all_pushed rs ys r records all is = subst (λ (zs : List Record). AllByRecursion IsRecord zs) (sym records) (all_and rs r all is)
