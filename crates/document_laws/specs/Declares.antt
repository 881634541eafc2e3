-- What rows are read by is that of a form.
use Rattle.std.specs.Prelude.{◌≡◌, map}
use Rattle.rules.specs.Bytes.{Bytes, concat}
use Rattle.rules.specs.Store.{Form, Row, Forest}
use Rattle.rules.specs.Layout.{flat_definition, all_attributes}
use Rattle.rules.specs.Print.{document_lines}
use Rattle.document_tokens.specs.Tokens.{Declared}

pub record Declares (f : Declared) (form : Form) : Type 0 where
  pub definitions : f.definitions ≡ map (flat_definition form) form
  pub attributes : f.attributes ≡ all_attributes 0 form

-- documents as a text
abbrev pub text_of_documents : Forest Row → Bytes
text_of_documents docs = concat (map concat (document_lines docs))
