use Rattle.std.proofs.Common.{List, ℕ, [], ◌∷◌, ◌++◌, ◌∙◌, ap}
use Rattle.std.proofs.lemmas.List.{append-nil}
use Rattle.tier_device.specs.Row.{row_bytes}
use Rattle.tier_device.proofs.Rows.{joined_more}
use Rattle.tier_device.proofs.row.Row.begin_piece.Goals as goal

pub returns-in-Ok : goal.returns-in-Ok
returns-in-Ok c =
    let l = c.self.inside in
    let full = c.replace-full.result in
    ap (λ (x : List (List ℕ)). row_bytes x ++ c.replace-full.new.dest) c.in-Ok.ensures.items
    ∙ ap (λ (d : List ℕ). row_bytes (l.full.items ++ full ∷ []) ++ d) (c.replace-full.ensures.after ∙ c.in_ok-bytes.ensures.items)
    ∙ append-nil (row_bytes (l.full.items ++ full ∷ [])) ∙ joined_more l.full.items full ∙ ap (λ (x : List ℕ). row_bytes l.full.items ++ x) c.replace-full.ensures.value ∙ c.self.view_is
