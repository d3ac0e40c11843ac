-- Small cases, computed: what counts of two regions of bytes, which generations are free, and whose an inode is.
use Rattle.std.proofs.Common.{◌≡◌, ℕ, zero, suc, ◌-◌, ◌^◌, false, List, [], ◌∷◌, ◌++◌, replicate, flat_map, find, map, Option, Some, refl}
use Rattle.update_log.specs.file_graph.declared.effect.Effect.TheVariants as effect
use Rattle.update_log.specs.file_graph.declared.effect.Kind.TheVariants as kind
use Rattle.update_log.specs.log_record.declared.format.Record.{Record}
use Rattle.update_log.specs.log_record.Grammar.{record_of, record_at, header_at, effects_at, effect_at, fields_at, dropped_at}
use Rattle.update_log.specs.RecordCounts.{counted_records}
use Rattle.log_survey.specs.Generations.{is_free, later}
use Rattle.log_survey.specs.Owners.{is_foreign, owner_among, touched_inodes}

-- ---- what counts

-- a record that drops an inode
abbrev drop_record : ℕ → Record
drop_record i = record { units = 0; effects = effect.Drop i ∷ [] }

-- behind an open gate: a length of 10, no units, one effect, the tag of a drop, and the inode
abbrev drop_bytes : ℕ → List ℕ
drop_bytes i = 165 ∷ 10 ∷ 0 ∷ 0 ∷ 0 ∷ 0 ∷ 0 ∷ 0 ∷ 0 ∷ 1 ∷ 7 ∷ i ∷ 0 ∷ 0 ∷ 0 ∷ []

-- a header that names a generation, records that drop these inodes, and a closed gate
abbrev region : List ℕ → List ℕ → List ℕ
region name is = name ++ replicate 8 0 ++ flat_map drop_bytes is ++ 0 ∷ []

-- the name of a generation below 256, and of the last one
abbrev low : ℕ → List ℕ
low g = g ∷ replicate 7 0

abbrev last : List ℕ
last = replicate 8 255

-- the regions of even and of odd generations
abbrev both : List ℕ → List ℕ → ℕ → List ℕ
both even odd zero = even
both even odd (suc r) = odd

both_count : counted_records 4 1 (both (region (low 4) (2 ∷ 3 ∷ [])) (region (low 5) (9 ∷ []))) ≡ map drop_record (3 ∷ 9 ∷ [])
unfolding record_of record_at header_at effects_at effect_at fields_at dropped_at
both_count = refl

before_counts_none : counted_records 4 0 (both (region (low 4) (2 ∷ [])) (region (low 3) (9 ∷ []))) ≡ map drop_record (2 ∷ [])
unfolding record_of record_at header_at effects_at effect_at fields_at dropped_at
before_counts_none = refl

later_count_none : counted_records 4 0 (both (region (low 6) (2 ∷ [])) (region (low 7) (9 ∷ []))) ≡ []
unfolding record_of record_at header_at effects_at effect_at fields_at dropped_at
later_count_none = refl

next_counts_alone : counted_records 4 0 (both (region (low 2) (2 ∷ [])) (region (low 5) (9 ∷ []))) ≡ map drop_record (9 ∷ [])
unfolding record_of record_at header_at effects_at effect_at fields_at dropped_at
next_counts_alone = refl

one_name_counts_once : counted_records 4 0 (both (region (low 4) (2 ∷ [])) (region (low 4) (9 ∷ []))) ≡ map drop_record (2 ∷ [])
unfolding record_of record_at header_at effects_at effect_at fields_at dropped_at
one_name_counts_once = refl

more_done_than_there : counted_records 4 9 (both (region (low 4) (2 ∷ [])) (region (low 5) (9 ∷ []))) ≡ map drop_record (9 ∷ [])
unfolding record_of record_at header_at effects_at effect_at fields_at dropped_at
more_done_than_there = refl

generations_begin_again : counted_records (2 ^ 64 - 1) 0 (both (region (low 0) (2 ∷ [])) (region last (9 ∷ []))) ≡ map drop_record (9 ∷ 2 ∷ [])
unfolding record_of record_at header_at effects_at effect_at fields_at dropped_at
generations_begin_again = refl

-- ---- free generations

-- the first of three that is free
abbrev first_free : List ℕ → ℕ → Option ℕ
first_free names g = find (is_free names) (later 2 g ∷ later 4 g ∷ later 6 g ∷ [])

none_names_it : first_free (4 ∷ 3 ∷ []) 4 ≡ Some 6
none_names_it = refl

one_names_it : first_free (6 ∷ 5 ∷ []) 4 ≡ Some 8
one_names_it = refl

one_names_the_next : first_free (4 ∷ 7 ∷ []) 4 ≡ Some 8
one_names_the_next = refl

two_are_named : first_free (8 ∷ 7 ∷ []) 4 ≡ Some 10
two_are_named = refl

after_the_last : first_free (0 ∷ (2 ^ 64 - 1) ∷ []) (2 ^ 64 - 1) ≡ Some 1
after_the_last = refl

named_after_the_last : first_free (2 ∷ 3 ∷ []) (2 ^ 64 - 1) ≡ Some 5
named_after_the_last = refl

last_is_named : first_free ((2 ^ 64 - 4) ∷ (2 ^ 64 - 1) ∷ []) (2 ^ 64 - 4) ≡ Some 0
last_is_named = refl

-- ---- owners

-- clients 1 to 3: the first drops 7 twice and 9, the second enters 9 into directory 1, the third drops 9
abbrev logs : ℕ → List Record
logs (suc zero) = drop_record 7 ∷ drop_record 9 ∷ drop_record 7 ∷ []
logs (suc (suc zero)) = record { units = 0; effects = effect.Enter 1 9 kind.File (97 ∷ []) ∷ [] } ∷ []
logs (suc (suc (suc zero))) = drop_record 4 ∷ drop_record 9 ∷ []
logs c = []

twice_is_listed_twice : touched_inodes (logs 1) ≡ 7 ∷ 9 ∷ 7 ∷ []
twice_is_listed_twice = refl

entered_is_not_touched : touched_inodes (logs 2) ≡ 1 ∷ []
entered_is_not_touched = refl

own_is_not_foreign : is_foreign (owner_among logs 1) 1 9 ≡ false
own_is_not_foreign = refl

owner_of_nine : owner_among logs 2 9 ≡ Some 1
owner_of_nine = refl

nine_is_shared : find (is_foreign (owner_among logs 2) 3) (touched_inodes (logs 3)) ≡ Some 9
nine_is_shared = refl

root_is_the_seconds : owner_among logs 3 1 ≡ Some 2
root_is_the_seconds = refl
