-- What the writes of a batch leave to read.
use Rattle.std.proofs.Common.{◌≡◌, ◌≤◌, ◌+◌, ◌*◌, inl, inr, ℕ, List, [], ◌∷◌, length, get_or, ◌==◌, true, false, sym, ◌∙◌, ap, subst, arith}
use Rattle.tier_device.specs.Media.{Torn, overwritten}
use Rattle.tier_device.specs.RecordLaws.{torn_overwritten}
use Rattle.batch_journal.specs.Images.{image_count, images_of}
use Rattle.batch_journal.specs.Blocks.{area_of, gate_of, is_gate_open}
use Rattle.batch_journal.specs.Volume.{SameJournal, IsAfter}
use Rattle.batch_journal.specs.Course.{SameOrAfter}
use Rattle.batch_journal.proofs.Meaning.{Staged, staging_closed, staging_alike, staged_written, written_gate, opening_either, opened_after}

-- Head and images are written behind the closed gate.
pub record IsStaged (bytes seen seen' : List ℕ) : Type 0 where
  pub closed : is_gate_open seen' ≡ false
  pub alike : SameJournal seen seen'
  pub staged : Staged bytes (area_of seen')
  pub long : 139265 ≤ length seen'

pub staged_by : (bytes seen seen' : List ℕ) → image_count bytes ≤ 256 → 4096 * image_count bytes + 4096 ≡ length bytes → 1196032 ≤ length seen → is_gate_open seen ≡ false → seen' ≡ overwritten seen 143360 bytes → IsStaged bytes seen seen'
staged_by bytes seen seen' few long size closed is =
    let n = length bytes in
    let high : 143360 + n ≤ 1196032 = omega (arith, few, long) in
    let torn : Torn 143360 n seen seen' = subst (λ (s : List ℕ). Torn 143360 n seen s) (sym is) (torn_overwritten seen 143360 bytes (omega (arith, high, size))) in
    record {
      closed = staging_closed n seen seen' high closed torn;
      alike = staging_alike n seen seen' high closed torn;
      staged = subst (λ (s : List ℕ). Staged bytes (area_of s)) (sym is) (staged_written seen bytes (omega (arith, high)) (omega (arith, size)) (omega (arith, long)) few);
      long = omega (arith, torn.same_length, size);
    }

pub gate_torn : (byte : ℕ) (s s' : List ℕ) → 139265 ≤ length s → s' ≡ overwritten s 139264 (byte ∷ []) → Torn 139264 1 s s'
gate_torn byte s s' le is = subst (λ (x : List ℕ). Torn 139264 1 s x) (sym is) (torn_overwritten s 139264 (byte ∷ []) (omega (arith, le)))

pub gate_byte : (byte : ℕ) (s s' : List ℕ) → 139265 ≤ length s → s' ≡ overwritten s 139264 (byte ∷ []) → gate_of s' ≡ byte ∷ []
gate_byte byte s s' le is = ap gate_of is ∙ written_gate s byte le

pub gate_now : (byte : ℕ) (s s' : List ℕ) → 139265 ≤ length s → s' ≡ overwritten s 139264 (byte ∷ []) → is_gate_open s' ≡ (byte == 165)
gate_now byte s s' le is =
    let here : gate_of s' ≡ byte ∷ [] = ap gate_of is ∙ written_gate s byte le in
    ap (λ (b : List ℕ). get_or b 0 0 == 165) here

-- and then the gate is opened
pub opened_by : (bytes seen d s : List ℕ) → IsStaged bytes seen d → s ≡ overwritten d 139264 (165 ∷ []) → (is_gate_open s ≡ true) × IsAfter bytes seen s × (images_of (area_of s) ≡ images_of bytes)
opened_by bytes seen d s st is =
    let opened : is_gate_open s ≡ true = gate_now 165 d s st.long is in
    let after = opened_after bytes seen d s st.alike st.closed st.staged (gate_torn 165 d s st.long is) opened in
    (opened, after.0, after.1)

-- a stop while it is being opened
pub opening_by : (left : List ℕ → Type 0) (bytes seen d s : List ℕ) → left seen → IsStaged bytes seen d → Torn 139264 1 d s → SameOrAfter left bytes seen s
opening_by left bytes seen d s now st torn =
    elim (opening_either bytes seen d s st.alike st.closed st.staged torn) [ inl same ↦ inl (seen, now, same) | inr after ↦ inr after ]
