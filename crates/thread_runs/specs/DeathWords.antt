-- The death of a client that the words of a command line ask for.
use Rattle.std.specs.Prelude.{◌≡◌, ◌≢◌, ⊤, ℕ, List, Option, Some, None, codes, option_map}
use Rattle.script.specs.Script.{◌>>=◌, client, ordinal, parts, two}
use Rattle.command_line.specs.Options.{Row, text_in}
use Rattle.thread_runs.specs.declared.death.Death.{Death}

-- the client and the call that a text gives, with a colon (58) between them
abbrev pub death_in : List ℕ → Option Death
death_in text = two (parts 58 text) >>= λ w. client w.0 >>= λ c. option_map (λ k. record { client = c; call = k }) (ordinal w.1)

-- none, or the one that this text gives
abbrev pub IsDeath : Option (List ℕ) → Option Death → Type 0
IsDeath None None = ⊤
IsDeath None (Some death) = ⊥
IsDeath (Some text) death = (death ≡ death_in text) × (death ≢ None)

abbrev pub IsDeathIn : List Row → Option Death → Type 0
IsDeathIn rows death = IsDeath (text_in rows (codes "die")) death

-- there is a text, and it gives none
abbrev pub HasBadDeath : List Row → Type 0
HasBadDeath rows = (text : List ℕ) × (text_in rows (codes "die") ≡ Some text) × (death_in text ≡ None)
