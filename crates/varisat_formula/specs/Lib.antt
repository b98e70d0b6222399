pub mod promises
pub mod inside
pub use Rattle.varisat_literals.specs.promises.Numbers
