-- Lemmas on names, that speak of no pass.
use Rattle.std.proofs.Common.{◌≡◌, ℕ, true, List}
use Rattle.ir_laws.specs.ir_base.declared.name.Name.{Name}
use Rattle.ir_laws.specs.text_names.Spelling.{IsName, is_name_text}
use Rattle.pass_intrinsics.specs.Shapes.{part_name}
use Rattle.ir_laws.specs.ir_model.Names.{spelling}
use Rattle.ir_laws.proofs.facts.Lists.{spelling_bytes, word_last}

pub part_named : (n : Name) (suffix : List ℕ) → IsName n → is_name_text suffix ≡ true → IsName (part_name n suffix)
part_named n suffix h s = word_last (spelling n) suffix (spelling_bytes n h) s
