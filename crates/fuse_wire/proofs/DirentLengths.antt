-- How long entries of a folder are.
use Rattle.std.proofs.Common.{◌≡◌, ℕ, zero, suc, ◌+◌, ◌<◌, ◌≤◌, ◌++◌, List, [], ◌∷◌, length, take, drop, get_or, length-append, append_assoc, arith, refl, ap, sym, ◌∙◌}
use Rattle.std.proofs.Math.ListN.{replicate}
use Rattle.std.specs.List.{flat_map}
use Rattle.std.proofs.lemmas.List.{length-replicate, take_more, take-append-drop, append-nil}
use Rattle.std.proofs.lemmas.Grind.{flat_map-append}
use Rattle.fuse_wire.specs.declared.dirents.Dirent.{Dirent}
use Rattle.fuse_wire.specs.Fields.{u32, u64, fields_bytes}
use Rattle.fuse_wire.specs.Replies.{kind_number, dirent_fields, dirent_bytes, dirents_bytes, pad_len}
use Rattle.fuse_wire.proofs.Lengths.{length-u32, length-u64}

no_less : (p : ℕ) → suc p ≤ 0 → ⊥
no_less p le = omega arith

length-dirent_fields : (d : Dirent) → length (fields_bytes (dirent_fields d)) ≡ 24
length-dirent_fields d = simp (length-append, length-u32, length-u64)

pub length_dirent : (d : Dirent) → length (dirent_bytes d) ≡ 24 + length d.name.now + pad_len (length d.name.now)
unfolding dirent_bytes
length_dirent d =
    let zeros : List ℕ = replicate (pad_len (length d.name.now)) 0 in
    omega (
      arith,
      length-append (fields_bytes (dirent_fields d)) (d.name.now ++ zeros),
      length-append d.name.now zeros,
      length-dirent_fields d,
      length-replicate {A = ℕ} (pad_len (length d.name.now)) 0,
    )

pub name_len : (d : Dirent) (n : ℕ) → length (dirent_bytes d) ≤ n → length d.name.now ≤ n
name_len d n short = omega (arith, short, length_dirent d)

pub all_fit : (ds : List Dirent) (i : ℕ) → length (dirents_bytes (take i ds)) ≤ length (dirents_bytes ds)
all_fit ds i =
    let cut : dirents_bytes ds ≡ dirents_bytes (take i ds) ++ dirents_bytes (drop i ds) = ap dirents_bytes (sym (take-append-drop i ds)) ∙ flat_map-append dirent_bytes (take i ds) (drop i ds) in
    omega (arith, ap length cut, length-append (dirents_bytes (take i ds)) (dirents_bytes (drop i ds)))

-- ---- what is written of an entry

take_zeros : (p n : ℕ) → p ≤ n → take {A = ℕ} p (replicate {A = ℕ} n 0) ≡ replicate {A = ℕ} p 0
take_zeros zero n le = refl
take_zeros (suc p) zero le = absurd (no_less p le)
take_zeros (suc p) (suc n) le = ap (λ (t : List ℕ). 0 ∷ t) (take_zeros p n (omega arith))

pub some_zeros : (p : ℕ) → p ≤ 7 → take {A = ℕ} p (0 ∷ 0 ∷ 0 ∷ 0 ∷ 0 ∷ 0 ∷ 0 ∷ 0 ∷ []) ≡ replicate {A = ℕ} p 0
some_zeros p le = take_zeros p 8 (omega arith)

pub fields_written : (d : Dirent) (kind : ℕ) (o o1 o2 o3 o4 : List ℕ) → kind ≡ kind_number d.kind → o1 ≡ o ++ u64 d.inode → o2 ≡ o1 ++ u64 d.next → o3 ≡ o2 ++ u32 (length d.name.now) → o4 ≡ o3 ++ u32 kind
    → o4 ≡ o ++ fields_bytes (dirent_fields d)
fields_written d kind o o1 o2 o3 o4 is e1 e2 e3 e4 =
    let flat : (((o ++ u64 d.inode) ++ u64 d.next) ++ u32 (length d.name.now)) ++ u32 (kind_number d.kind) ≡ o ++ fields_bytes (dirent_fields d) = simp (append_assoc, append-nil) in
    e4 ∙ rw (e3, e2, e1, is) flat

pub dirent_written : (d : Dirent) (p : ℕ) (zeros o o1 o2 o3 : List ℕ) → zeros ≡ replicate {A = ℕ} p 0 → p ≡ pad_len (length d.name.now) → o1 ≡ o ++ fields_bytes (dirent_fields d) → o2 ≡ o1 ++ d.name.now → o3 ≡ o2 ++ zeros
    → o3 ≡ o ++ dirent_bytes d
unfolding dirent_bytes
dirent_written d p zeros o o1 o2 o3 z is e1 e2 e3 =
    let head : List ℕ = fields_bytes (dirent_fields d) in
    let pad : List ℕ = replicate (pad_len (length d.name.now)) 0 in
    let zeros_are : zeros ≡ pad = z ∙ ap (λ (k : ℕ). replicate k 0) is in
    e3 ∙ ap (λ (t : List ℕ). t ++ zeros) (e2 ∙ ap (λ (t : List ℕ). t ++ d.name.now) e1) ∙ ap (λ (t : List ℕ). ((o ++ head) ++ d.name.now) ++ t) zeros_are ∙ append_assoc (o ++ head) d.name.now pad ∙ append_assoc o head (d.name.now ++ pad)

-- one entry more
pub next_dirent : (ds : List Dirent) (i : ℕ) (d : Dirent) → i < length ds → length (dirents_bytes (take (i + 1) ds)) ≡ length (dirents_bytes (take i ds)) + length (dirent_bytes (get_or ds i d))
next_dirent ds i d lt =
    let one : List Dirent = get_or ds i d ∷ [] in
    ap (λ (es : List Dirent). length (dirents_bytes es)) (take_more ds i d lt)
    ∙ ap length (flat_map-append dirent_bytes (take i ds) one)
    ∙ omega (arith, length-append (dirents_bytes (take i ds)) (flat_map dirent_bytes one), length-append (dirent_bytes (get_or ds i d)) [])
