-- Texts that are documents.
use Rattle.std.proofs.Common.{◌≡◌, ℕ, List, Some, None, inl, inr}
use Rattle.std.specs.Str.{IsUtf8, is_utf8}
use Rattle.std.proofs.lemmas.Bool.{cases_Bool}
use Rattle.std.proofs.lemmas.Str.{IsUtf8-from_is_utf8, is_utf8-from_IsUtf8}
use Rattle.toml.specs.Data.{Members}
use Rattle.toml.specs.Parse.{parse_document}
use Rattle.fwd_settings.specs.Whole.{document_of}

pub document_read : (text : List ℕ) (root : Members) → IsUtf8 text
    → parse_document text ≡ Some root → document_of text ≡ Some root
unfolding document_of
document_read text root utf8 parsed = rw (is_utf8-from_IsUtf8 text utf8) parsed

pub no_document : (text : List ℕ) → (IsUtf8 text → parse_document text ≡ None)
    → document_of text ≡ None
unfolding document_of
no_document text refused = elim (cases_Bool (is_utf8 text)) [
  | inl utf8 ↦ rw utf8 (refused (IsUtf8-from_is_utf8 text utf8))
  | inr other ↦ rw other
]

-- what reading a document needs
pub ruleset document_steps = (document_read, no_document)
