-- Entries in the order of their names, and the place of a name among them.
use Rattle.std.specs.Prelude.{◌≡◌, ℕ, suc, true, not, List, [], ◌∷◌, map, Result, Ok, Err}
use Rattle.std.specs.Ordering.{nat_cmp, eq_by_cmp}
use Rattle.std.specs.declared.cmp.Ordering.{Ordering}
use Rattle.std.specs.declared.cmp.Ordering.TheVariants.{Less, Equal, Greater}
use Rattle.std.specs.Cmp.Lexicographic.{slice_cmp}
use Rattle.std.specs.FinMap as fin
use Rattle.std.specs.FinMap.Entries.{where_key}
use Rattle.file_graph.specs.declared.name_map.NamedEntry.{NamedEntry}

-- what each entry has under its name
abbrev pub pairs : {V : Type 0} → List (NamedEntry V) → List (List ℕ × V)
pairs es = map (λ e. (e.name, e.value)) es

-- each name comes after the one before
abbrev pub IsInOrder : {V : Type 0} → List (NamedEntry V) → Type 0
IsInOrder es = fin.is_sorted (slice_cmp nat_cmp) (pairs es) ≡ true

-- the entries of all other names
abbrev pub without : {V : Type 0} → List ℕ → List (List ℕ × V) → List (List ℕ × V)
without name es = where_key (slice_cmp nat_cmp) (λ x. not (eq_by_cmp (slice_cmp nat_cmp) name x)) es

-- a place counted from one entry earlier
abbrev pub one_later : Result ℕ ℕ → Result ℕ ℕ
one_later (Ok i) = Ok (suc i)
one_later (Err i) = Err (suc i)

-- a place by how the name compares with the first entry's, where `rest` is its place in the others
abbrev pub position_by : Ordering → Result ℕ ℕ → Result ℕ ℕ
position_by Less rest = Err 0
position_by Equal rest = Ok 0
position_by Greater rest = one_later rest

-- where the entry of a name stands, or else where it would
abbrev pub position_in : {V : Type 0} → List ℕ → List (NamedEntry V) → Result ℕ ℕ
position_in name [] = Err 0
position_in name (e ∷ es) = position_by (slice_cmp nat_cmp name e.name) (position_in name es)
