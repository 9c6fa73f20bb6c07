use Rattle.vs_plain_rings.proofs.Posting.{posted_bytes, posted_taken}
use Rattle.vs_plain_rings.proofs.laws.law_of_posting.Goals as goal

pub returns-clause-chain : goal.returns-clause-chain
returns-clause-chain c = posted_taken

pub returns-clause-bytes : goal.returns-clause-bytes
returns-clause-bytes c = posted_bytes
