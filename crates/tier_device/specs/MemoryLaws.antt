-- The laws of a medium in memory.
use Rattle.std.specs.Prelude.{◌≡◌, ◌≤◌, ℕ, List, length, take, refl}
use Rattle.std.proofs.Common.{sym, ◌∙◌, ap, subst, arith}
use Rattle.std.proofs.lemmas.List.{take_all}
use Rattle.tier_device.specs.declared.media.Tier.{Tier}
use Rattle.tier_device.specs.declared.memory.MemMedia.{MemMedia}
use Rattle.tier_device.specs.DeviceCall.{DeviceCall}
use Rattle.tier_device.specs.Rows.{row}
use Rattle.tier_device.specs.Memory.{memory_seen, memory_left, memory_moment}
use Rattle.tier_device.specs.Record.{LeftAfter}
use Rattle.tier_device.specs.RecordLaws.{replayed_left, length-replayed, left_length}

pub memory_seen_now : (m : MemMedia) (t : Tier) → memory_left m (memory_moment m) t (memory_seen m t)
memory_seen_now m t =
    let inside = m.inside.value in
    let first = row inside.first t in
    let Before : List ℕ → Type 0 = λ d. d ≡ first in
    subst (λ (xs : List DeviceCall). LeftAfter t first Before xs (memory_seen m t)) (sym (take_all (length inside.calls) inside.calls (omega arith)))
    (subst (λ (c : List ℕ). LeftAfter t first Before inside.calls c) (sym (inside.replays t)) (replayed_left t first Before inside.calls refl))

pub memory_sized : (m : MemMedia) (k : ℕ) (t : Tier) (c : List ℕ) → k ≤ memory_moment m → memory_left m k t c → length c ≡ length (memory_seen m t)
memory_sized m k t c le left =
    let inside = m.inside.value in
    left_length t (row inside.first t) (λ d. d ≡ row inside.first t) (take k inside.calls) (λ d e. ap length e) c left
    ∙ sym (ap length (inside.replays t) ∙ length-replayed t (row inside.first t) inside.calls)
