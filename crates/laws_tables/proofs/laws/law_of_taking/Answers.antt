use Rattle.laws_tables.proofs.Keeps.{drops, ignores, refuses, takes}
use Rattle.laws_tables.proofs.laws.law_of_taking.Goals as goal

pub returns-clause-known : goal.returns-clause-known
returns-clause-known c = takes

pub returns-clause-refused : goal.returns-clause-refused
returns-clause-refused c = refuses

pub returns-clause-ignored : goal.returns-clause-ignored
returns-clause-ignored c = ignores

pub returns-clause-dropped : goal.returns-clause-dropped
returns-clause-dropped c = drops
