-- The canonical text of modules.
pub use Rattle.text_canonical.specs.canonical.Items.{module_text}
