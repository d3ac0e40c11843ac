-- What a line of a script asks.
use Rattle.std.specs.Prelude.{ℕ, ◌==◌, List, [], ◌∷◌, take, Option, Some, None, if◌then◌else◌, option_map, codes}
use Rattle.std.specs.Str.{bytes_eq}
use Rattle.posix_calls.specs.declared.call.Call.{Call}
use Rattle.posix_calls.specs.declared.call.Call.TheVariants as call
use Rattle.script.specs.declared.runs.TheConstants.{MAX_DATA}
use Rattle.script.specs.declared.call_text.Verb.{Verb}
use Rattle.script.specs.declared.call_text.Verb.TheVariants as verbs
use Rattle.script.specs.Script.{◌>>=◌, parts, one, two, three, number, client, descriptor, flags, path_bytes, repeated_bytes}

-- the call that a word names
abbrev pub verb : List ℕ → Option Verb
verb w =
    if bytes_eq w (codes "open") then Some verbs.Open else
    if bytes_eq w (codes "close") then Some verbs.Close else
    if bytes_eq w (codes "pread") then Some verbs.Pread else
    if bytes_eq w (codes "pwrite") then Some verbs.Pwrite else
    if bytes_eq w (codes "truncate") then Some verbs.Truncate else
    if bytes_eq w (codes "mkdir") then Some verbs.Mkdir else
    if bytes_eq w (codes "rmdir") then Some verbs.Rmdir else
    if bytes_eq w (codes "link") then Some verbs.Link else
    if bytes_eq w (codes "unlink") then Some verbs.Unlink else
    if bytes_eq w (codes "rename") then Some verbs.Rename else
    if bytes_eq w (codes "exchange") then Some verbs.Exchange else
    if bytes_eq w (codes "list") then Some verbs.List else
    if bytes_eq w (codes "stat") then Some verbs.Stat else None

-- the path of the only word
abbrev pub one_decoded : List (List ℕ) → Option (List ℕ)
one_decoded words = one words >>= path_bytes

-- the paths of both words
abbrev pub two_decoded : List (List ℕ) → Option (List ℕ × List ℕ)
two_decoded words = two words >>= λ w. path_bytes w.0 >>= λ a. option_map (λ b. (a, b)) (path_bytes w.1)

-- the call of a name and its words; of bytes to write, one more than a call may write stand for all that are too many
abbrev pub call_for : Verb → List (List ℕ) → Option Call
call_for verbs.Open words = two words >>= λ w. path_bytes w.0 >>= λ path. option_map (λ f. call.Open path f) (flags w.1)
call_for verbs.Close words = one words >>= λ w. option_map (λ d. call.Close d) (descriptor w)
call_for verbs.Pread words = three words >>= λ w. descriptor w.0 >>= λ d. number w.1 >>= λ at. option_map (λ n. call.Pread d at n) (number w.2)
call_for verbs.Pwrite words = three words >>= λ w. descriptor w.0 >>= λ d. number w.1 >>= λ at. option_map (λ bytes. call.Pwrite d at (take MAX_DATA bytes)) (repeated_bytes w.2)
call_for verbs.Truncate words = two words >>= λ w. path_bytes w.0 >>= λ path. option_map (λ n. call.Truncate path n) (number w.1)
call_for verbs.Mkdir words = option_map (λ p. call.Mkdir p) (one_decoded words)
call_for verbs.Rmdir words = option_map (λ p. call.Rmdir p) (one_decoded words)
call_for verbs.Link words = option_map (λ p. call.Link p.0 p.1) (two_decoded words)
call_for verbs.Unlink words = option_map (λ p. call.Unlink p) (one_decoded words)
call_for verbs.Rename words = option_map (λ p. call.Rename p.0 p.1) (two_decoded words)
call_for verbs.Exchange words = option_map (λ p. call.Exchange p.0 p.1) (two_decoded words)
call_for verbs.List words = option_map (λ p. call.List p) (one_decoded words)
call_for verbs.Stat words = option_map (λ p. call.Stat p) (one_decoded words)

-- what words ask: a client and its call
abbrev pub asks : List (List ℕ) → Option (ℕ × Call)
asks [] = None
asks (c ∷ []) = None
asks (c ∷ w ∷ words) = client c >>= λ n. verb w >>= λ v. option_map (λ q. (n, q)) (call_for v words)

-- what a line asks: nothing where it is empty or begins with `#` (35); no value where it can't be read
abbrev pub line_request : List ℕ → Option (Option (ℕ × Call))
line_request [] = Some None
line_request (b ∷ bs) = if b == 35 then Some None else option_map Some (asks (parts 32 (b ∷ bs)))
