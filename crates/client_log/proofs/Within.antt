-- The records of a region stand within it.
use Rattle.std.proofs.Common.{◌≡◌, ◌<◌, ◌≤◌, ◌+◌, ◌^◌, ℕ, List, sym, subst, arith}
use Rattle.std.specs.Prelude.{zero, suc, [], ◌∷◌, ◌++◌, Option, Some, None, length}
use Rattle.tier_device.specs.declared.media.Media.{Ghosts}
use Rattle.tier_device.specs.declared.media.Tier.{Tier}
use Rattle.update_log.specs.log_record.declared.format.Record.{Record}
use Rattle.update_log.specs.log_record.Grammar.{record_bytes}
use Rattle.update_log.specs.Frames.{end_behind, taken_length, with_record}
use Rattle.update_log.specs.View.{RegionView, records_of}
use Rattle.update_log.specs.declared.format.TheConstants.{REGION_SIZE}

each_takes : (rs : List Record) → length rs ≤ taken_length rs
each_takes [] = omega arith
each_takes (r ∷ rs) = omega (arith, each_takes rs)

pub few_within : (rs : List Record) → end_behind rs < REGION_SIZE → length rs < 2 ^ 32
few_within rs within = omega (arith, within, each_takes rs)

taken_more : (rs : List Record) (r : Record) → taken_length (rs ++ r ∷ []) ≡ taken_length rs + (5 + length (record_bytes r))
taken_more [] r = omega arith
taken_more (x ∷ rs) r = omega (arith, taken_more rs r)

not_more : (a b : ℕ) → (b < a → ⊥) → a ≤ b
not_more zero b less = omega arith
not_more (suc a) zero less = absurd (less (omega arith))
not_more (suc a) (suc b) less = omega (arith, not_more a b (λ l. less (omega (arith, l))))

-- a record that fits
pub one_more_within : (rs : List Record) (r : Record) → (REGION_SIZE < end_behind rs + 5 + length (record_bytes r) + 1 → ⊥) → end_behind (rs ++ r ∷ []) < REGION_SIZE
one_more_within rs r fits = omega (arith, taken_more rs r, not_more (end_behind rs + 5 + length (record_bytes r) + 1) REGION_SIZE fits)

-- with the same records, and the same one begun, a region has the same room
pub within_same : {M : Type 0} (device : Ghosts M) (old new : RegionView M) → records_of device new ≡ records_of device old → new.begun ≡ old.begun → end_behind (with_record (records_of device old) old.begun) < REGION_SIZE → end_behind (with_record (records_of device new) new.begun) < REGION_SIZE
within_same device old new same begun within =
    subst (λ (b : Option Record). end_behind (with_record (records_of device new) b) < REGION_SIZE) (sym begun) (subst (λ (l : List Record). end_behind (with_record l old.begun) < REGION_SIZE) (sym same) within)

-- and it has room without the begun one
pub less_within : (rs : List Record) (o : Option Record) → end_behind (with_record rs o) < REGION_SIZE → end_behind rs < REGION_SIZE
less_within rs None within = within
less_within rs (Some r) within = omega (arith, taken_more rs r, within)
