-- A text in UTF-8 is read as TOML.
use Rattle.std.proofs.Common.{◌≡◌, ℕ, Bool, true, ◌==◌, if◌then◌else◌, List, length, Result, Err}
use Rattle.std.proofs.Common.{ap, ◌∙◌, arith}
use Rattle.std.proofs.lemmas.Bool.Decides.{nat_tests}
use Rattle.std.proofs.lemmas.Str.{utf8_valid_len-IsUtf8}
use Rattle.std.specs.Option.{ok_or}
use Rattle.std.specs.Str.{IsUtf8}
use Rattle.toml.specs.Data.{Members}
use Rattle.toml.specs.Parse.{parse_document}
use Rattle.nm_topology.specs.declared.fault.Refusal.{Refusal}
use Rattle.nm_topology.specs.declared.fault.Refusal.TheVariants.{Text}
use Rattle.nm_topology.specs.Parse.{top_table_of}

same : (n : ℕ) → (n == n) ≡ true
same n = grind (arith, nat_tests)

pub top_table_of_utf8 : (text : List ℕ) → IsUtf8 text → top_table_of text ≡ ok_or (parse_document text) Text
top_table_of_utf8 text utf8 =
    let read : Bool → Result Members Refusal = λ b. if b then ok_or (parse_document text) Text else Err Text in
    ap (λ n. read (n == length text)) (utf8_valid_len-IsUtf8 text utf8) ∙ ap read (same (length text))
