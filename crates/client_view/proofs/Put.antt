-- What a client knows once it was given a block.
use Rattle.std.proofs.Common.{◌≡◌, inl, inr, ℕ, ◌+◌, ◌-◌, ◌*◌, ◌<◌, Bool, true, false, cond, List, ◌++◌, length, take, min, replicate, Option, Some, None, refl, ap, sym, ◌∙◌, subst, arith, append-nil}
use Rattle.std.specs.Prelude.{◌==◌, ◌&&◌, nat_lt, nat_le, option_map, if◌then◌else◌}
use Rattle.std.proofs.Math.Decide.{dec_le}
use Rattle.std.proofs.lemmas.Bool.{cases_Bool, eqb-true, eq-eqb, and_parts, and_from, cond-true, cond-false, lt-ltb}
use Rattle.std.proofs.lemmas.Bool.Decides.{nat_tests}
use Rattle.std.proofs.lemmas.List.{take-append-le, take_all}
use Rattle.posix_calls.specs.Content.{with_length}
use Rattle.posix_calls.specs.declared.limits.TheConstants.{UNIT_BYTES}
use Rattle.block_cache.specs.declared.bytes.TheConstants.{BLOCK_SIZE}
use Rattle.client_plan.specs.file_graph.Numbers.{in_run}
use Rattle.block_cache.specs.CacheList.{Block, bytes_at, put_block, used_run}
use Rattle.block_cache.proofs.Found.{put_found, put_others, used_run_stays}
use Rattle.client_plan.specs.call_effects.NodeView.{NodeView, FileView}
use Rattle.client_plan.specs.call_effects.Knowledge.{IsForgetful, with_blocks}
use Rattle.client_view.specs.KnowledgeTables.{Held, copy_at, size_known, kept_at, file_block, block_by, block_known, knows}
use Rattle.client_view.specs.BlockPut.{IsBlockLong}

-- what was padded is cut again
pub cut_padded : (unit left : ℕ) (bytes : List ℕ) → length bytes ≡ min unit left → take left (with_length unit bytes) ≡ bytes
cut_padded unit left bytes long =
    let short : take unit bytes ≡ bytes = take_all unit bytes (omega (arith, long)) in
    ap (λ (xs : List ℕ). take left (xs ++ replicate (unit - length bytes) 0)) short ∙ elim (dec_le left (length bytes)) [
      | yes within ↦ take-append-le left bytes (replicate (unit - length bytes) 0) within ∙ take_all left bytes (omega (arith, long))
      | no past ↦
          let full : unit - length bytes ≡ 0 = omega (arith, long, past) in
          ap (λ n. take left (bytes ++ replicate n 0)) full ∙ ap (take left) (append-nil bytes) ∙ take_all left bytes (omega (arith, long))
    ]

-- the block is there
kept_there : (bs : List Block) (i b : ℕ) (padded : List ℕ) → b < 4294967296 → kept_at (put_block i b padded bs) i b ≡ Some padded
kept_there bs i b padded low = cond-true (nat_lt b 4294967296) (bytes_at i b (put_block i b padded bs)) None (lt-ltb b 4294967296 low) ∙ put_found bs i b padded

pub by_size : (c : Option (Option NodeView)) (names size : ℕ) (bs : List Block) (i b : ℕ) → c ≡ Some (Some (FileView names size)) → block_by (size_known c) bs i b ≡ file_block size bs i b
by_size c names size bs i b is = ap (λ (d : Option (Option NodeView)). block_by (size_known d) bs i b) is

pub block_there : (h : Held) (i b : ℕ) (bytes : List ℕ) → b < 4294967296 → IsBlockLong (knows h) i b bytes → block_known (record h { blocks = put_block i b (with_length BLOCK_SIZE bytes) h.blocks }) i b ≡ Some bytes
block_there h i b bytes low long =
    by_size (copy_at h.copies i) long.names long.size (put_block i b (with_length BLOCK_SIZE bytes) h.blocks) i b long.copy
    ∙ ap (option_map (take (long.size - UNIT_BYTES * b))) (kept_there h.blocks i b (with_length BLOCK_SIZE bytes) low)
    ∙ ap Some (cut_padded BLOCK_SIZE (long.size - UNIT_BYTES * b) bytes long.long)

-- what is kept at another place was there before
if_step : (t : Bool) (new old : Option (List ℕ)) (w : List ℕ) → ((v : List ℕ) → new ≡ Some v → old ≡ Some v) → cond t new None ≡ Some w → cond t old None ≡ Some w
if_step true new old w all is = all w is
if_step false new old w all is = absurd (cc)

map_step : (f : List ℕ → List ℕ) (new old : Option (List ℕ)) (w : List ℕ) → ((v : List ℕ) → new ≡ Some v → old ≡ Some v) → option_map f new ≡ Some w → option_map f old ≡ Some w
map_step f None old w all is = absurd (cc)
map_step f (Some v) old w all is = ap (option_map f) (all v refl) ∙ is

by_step : (s : Option ℕ) (new old : List Block) (j n : ℕ) (w : List ℕ) → ((v : List ℕ) → bytes_at j n new ≡ Some v → bytes_at j n old ≡ Some v) → block_by s new j n ≡ Some w → block_by s old j n ≡ Some w
by_step None new old j n w all is = absurd (cc)
by_step (Some size) new old j n w all is = map_step (take (size - UNIT_BYTES * n)) (kept_at new j n) (kept_at old j n) w (λ v. if_step (nat_lt n 4294967296) (bytes_at j n new) (bytes_at j n old) v all) is

in_itself : (b : ℕ) → in_run b 1 b ≡ true
in_itself b = grind (arith, nat_tests)

only_one : (b n : ℕ) → in_run b 1 n ≡ true → n ≡ b
only_one b n is = let parts = and_parts (nat_le b n) (nat_lt n (b + 1)) is in grind (arith, nat_tests, parts.0, parts.1)

module _ (h : Held) (i b : ℕ) (bytes : List ℕ) (low : b < 4294967296) (long : IsBlockLong (knows h) i b bytes) where
  others_before : (j n : ℕ) (v : List ℕ) → ((j == i) && in_run b 1 n) ≡ false → bytes_at j n (put_block i b (with_length BLOCK_SIZE bytes) h.blocks) ≡ Some v → bytes_at j n h.blocks ≡ Some v
  others_before j n v off is = elim (put_others j n i b h.blocks (with_length BLOCK_SIZE bytes) v is) [
    | inl same ↦ absurd (
        let yes' : ((j == i) && in_run b 1 n) ≡ true = and_from (j == i) (in_run b 1 n) (eq-eqb j i same.0) (subst (λ (m : ℕ). in_run b 1 m ≡ true) (sym same.1) (in_itself b)) in
        let no' : true ≡ false = sym yes' ∙ off in cc no')
    | inr before ↦ before
  ]

  pub no_more_blocks : (j n : ℕ) (v : List ℕ) → block_known (record h { blocks = put_block i b (with_length BLOCK_SIZE bytes) h.blocks }) j n ≡ Some v → (if (j == i) && in_run b 1 n then Some bytes else block_known h j n) ≡ Some v
  no_more_blocks j n v is = elim (cases_Bool ((j == i) && in_run b 1 n)) [
    | inl here ↦
        let parts = and_parts (j == i) (in_run b 1 n) here in
        let at = eqb-true j i parts.0 in
        let block = only_one b n parts.1 in
        cond-true ((j == i) && in_run b 1 n) (Some bytes) (block_known h j n) here
        ∙ sym (block_there h i b bytes low long)
        ∙ sym (λ t. block_known (record h { blocks = put_block i b (with_length BLOCK_SIZE bytes) h.blocks }) (at t) (block t))
        ∙ is
    | inr off ↦
        cond-false ((j == i) && in_run b 1 n) (Some bytes) (block_known h j n) off
        ∙ by_step (size_known (copy_at h.copies j)) (put_block i b (with_length BLOCK_SIZE bytes) h.blocks) h.blocks j n v (λ w. others_before j n w off) is
  ]

  pub put_is_less : IsForgetful (with_blocks (knows h) i b 1 (λ _. bytes)) (knows (record h { blocks = put_block i b (with_length BLOCK_SIZE bytes) h.blocks }))
  put_is_less = record {
    client = refl;
    own = λ number. refl;
    copies = record { nodes = λ j copy is. is; blocks = no_more_blocks };
    granted = λ j is. is;
  }

-- ---- as the code has it

-- a whole block gets no zeros behind it
pub whole_is_padded : (unit : ℕ) (bytes : List ℕ) → length bytes ≡ unit → with_length unit bytes ≡ bytes
whole_is_padded unit bytes whole =
    let none : unit - length bytes ≡ 0 = omega (arith, whole) in
    ap (λ n. take unit bytes ++ replicate n 0) none ∙ append-nil (take unit bytes) ∙ take_all unit bytes (omega (arith, whole))

module _ (h : Held) (i b : ℕ) (bytes : List ℕ) (bs : List Block) (after : bs ≡ put_block i b (with_length BLOCK_SIZE bytes) h.blocks) where
  pub kept_after : record h { blocks = bs } ≡ record h { blocks = put_block i b (with_length BLOCK_SIZE bytes) h.blocks }
  kept_after = ap (λ (xs : List Block). record h { blocks = xs }) after

  pub there_after : b < 4294967296 → IsBlockLong (knows h) i b bytes → block_known (record h { blocks = bs }) i b ≡ Some bytes
  there_after low long = ap (λ (xs : List Block). block_known (record h { blocks = xs }) i b) after ∙ block_there h i b bytes low long

  pub less_after : b < 4294967296 → IsBlockLong (knows h) i b bytes → IsForgetful (with_blocks (knows h) i b 1 (λ _. bytes)) (knows (record h { blocks = bs }))
  less_after low long = subst (λ (xs : List Block). IsForgetful (with_blocks (knows h) i b 1 (λ _. bytes)) (knows (record h { blocks = xs }))) (sym after) (put_is_less h i b bytes low long)

-- to use blocks changes nothing that is known
used_by : (s : Option ℕ) (bs : List Block) (i first count j n : ℕ) → block_by s (used_run i first count bs) j n ≡ block_by s bs j n
used_by None bs i first count j n = refl
used_by (Some size) bs i first count j n = ap (λ (o : Option (List ℕ)). option_map (take (size - UNIT_BYTES * n)) (cond (nat_lt n 4294967296) o None)) (used_run_stays j n i first count bs)

pub used_is_known : (h : Held) (i first count : ℕ) → knows (record h { blocks = used_run i first count h.blocks }) ≡ knows h
used_is_known h i first count = λ t. record { client = h.client; own = (knows h).own; copies = (knows h).copies; blocks = λ j n. used_by (size_known (copy_at h.copies j)) h.blocks i first count j n t; granted = (knows h).granted }
