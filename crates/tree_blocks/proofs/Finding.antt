-- The entry of a name among those of a block.
use Rattle.std.proofs.Common.{◌≡◌, ◌≢◌, ℕ, ◌+◌, ◌*◌, ◌/◌, ◌%◌, ◌≤◌, ◌<◌, Bool, true, false, List, length, get_or, Option, Some, None, refl, arith}
use Rattle.std.specs.List.{position, position_or_len}
use Rattle.std.specs.Str.{bytes_eq}
use Rattle.std.proofs.lemmas.List.Quantifiers.{position-Some}
use Rattle.std.proofs.lemmas.List.Sums.{fails_before_first}
use Rattle.std.proofs.lemmas.Slice.Eq.{bytes_eq-Decides}
use Rattle.std.proofs.lemmas.Grind.{common_steps}
use Rattle.layout.specs.declared.directory.DirEntry.{DirEntry}
use Rattle.layout.specs.Directory.{EntryList, no_entry, entry_of}

abbrev pub has : List ℕ → DirEntry → Bool
has name e = bytes_eq e.name name

pub found_name : (name : List ℕ) (es : List DirEntry) (i : ℕ) → position (has name) es ≡ Some i → (i < length es) × ((get_or es i no_entry).name ≡ name)
found_name name es i is =
    let p = position-Some (has name) es i no_entry is in
    (p.0, (bytes_eq-Decides (get_or es i no_entry).name name).0 p.1)

late : (p : DirEntry → Bool) (es : List DirEntry) → position p es ≡ None → length es ≤ position_or_len p es
late p es none = grind (arith, common_steps)

pub not_found : (name : List ℕ) (es : List DirEntry) → position (has name) es ≡ None → (i : ℕ) → i < length es → (get_or es i no_entry).name ≢ name
not_found name es none i lt is =
    let behind = late (has name) es none in
    let off : has name (get_or es i no_entry) ≡ false = fails_before_first (has name) es i no_entry (omega (arith, behind, lt)) in
    let on : has name (get_or es i no_entry) ≡ true = (bytes_eq-Decides (get_or es i no_entry).name name).1 is in
    absurd cc

pub none_found : (name : List ℕ) (es : List DirEntry) → ((i : ℕ) → i < length es → (get_or es i no_entry).name ≢ name) → position (has name) es ≡ None
none_found name es none = by (position (has name) es) refl where
  by : (o : Option ℕ) → position (has name) es ≡ o → position (has name) es ≡ None
  by None is = is
  by (Some i) is = let f = found_name name es i is in absurd (none i f.0 f.1)

-- an entry of a block, by its number among all
pub found_numbered : (lists : ℕ → EntryList) (count : ℕ) (name : List ℕ) (k i : ℕ) → k < count → i < 56 → i < length (lists k).entries → (entry_of (lists k) i).name ≡ name
    → ((56 * k + i) / 56 < count) × ((56 * k + i) % 56 < length (lists ((56 * k + i) / 56)).entries) × ((entry_of (lists ((56 * k + i) / 56)) ((56 * k + i) % 56)).name ≡ name)
found_numbered lists count name k i lt few inside is =
    let block : (56 * k + i) / 56 ≡ k = omega (arith, few) in
    let place : (56 * k + i) % 56 ≡ i = omega (arith, few) in
    rw (block, place) (lt, inside, is)
