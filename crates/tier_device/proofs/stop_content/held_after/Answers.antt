use Rattle.std.proofs.Common.{◌≡◌, ◌+◌, ◌∙◌, rules, arith, ap, sym, drop, take, List, ℕ}
use Rattle.std.proofs.lemmas.List.{take-append-drop}
use Rattle.tier_device.specs.Record.{replay_content}
use Rattle.tier_device.specs.StopContent.{spoilt_all}
use Rattle.tier_device.specs.CallLog.{calls_of, total_len}
use Rattle.tier_device.specs.declared.record.Entry.{Entry}
use Rattle.tier_device.proofs.HeldLaws.{held_cut}
use Rattle.tier_device.proofs.CallLogs.{total_len-append}
use Rattle.tier_device.proofs.stop_content.held_after.Goals as goal

-- the front and the rest take what all take
split_len : (es : List Entry) (k : ℕ) → total_len (take k es) + total_len (drop k es) ≡ total_len es
split_len es k = sym (total_len-append (take k es) (drop k es)) ∙ ap total_len (take-append-drop k es)

pub show_all-used-requires : goal.show_all-used-requires
show_all-used-requires c =
    let k = c.fenced_calls.result in
    omega (arith, split_len c.args.entries.now k, ap total_len c.split_at.ensures.front)

pub split_at-requires-2 : goal.split_at-requires-2
split_at-requires-2 c =
    let k = c.fenced_calls.result in
    omega (arith, split_len c.args.entries.now k, ap total_len c.split_at.ensures.front)

pub spoil_all-requires : goal.spoil_all-requires
spoil_all-requires c =
    let k = c.fenced_calls.result in
    omega (arith, split_len c.args.entries.now k, ap total_len c.split_at.ensures.front, ap total_len c.split_at.ensures.back, c.split_at-2.ensures.back_len)

pub returns : goal.returns
returns c =
    let k = c.fenced_calls.result in
    let es = c.args.entries.now in
    let w = c.args.written.now in
    let first = c.args.first.now in
    let copied : c.in_ok-bytes.bytes.items ≡ first = search rules in
    let shown : c.show_all-used.new.bytes.items ≡ replay_content c.args.tier first (calls_of (take k es) w) =
    c.show_all-used.ensures.shown ∙ ap (λ (l : List ℕ). replay_content c.args.tier l (calls_of c.split_at.result.0.now w)) copied ∙ ap (λ (l : List Entry). replay_content c.args.tier first (calls_of l w)) c.split_at.ensures.front in
    let rest : c.split_at-2.result.1.now ≡ drop (total_len (take k es)) w = c.split_at-2.ensures.back ∙ ap (λ n. drop n w) (c.show_all-used.ensures.used ∙ ap total_len c.split_at.ensures.front) in
    c.spoil_all.ensures
    ∙ ap (λ (l : List ℕ). spoilt_all c.args.fill c.args.tier l (calls_of c.split_at.result.1.now c.split_at-2.result.1.now)) shown
    ∙ ap (λ (l : List Entry). spoilt_all c.args.fill c.args.tier (replay_content c.args.tier first (calls_of (take k es) w)) (calls_of l c.split_at-2.result.1.now)) c.split_at.ensures.back
    ∙ ap (λ (l : List ℕ). spoilt_all c.args.fill c.args.tier (replay_content c.args.tier first (calls_of (take k es) w)) (calls_of (drop k es) l)) rest
    ∙ held_cut c.args.fill c.args.tier first w es k c.fenced_calls.ensures.within c.fenced_calls.ensures.last c.fenced_calls.ensures.none_later
