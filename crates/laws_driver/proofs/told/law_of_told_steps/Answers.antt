use Rattle.laws_driver.proofs.Ordering.{connects_stays, owed_stays, publish_stays, reply_stays, sends_stays, takes_stays}
use Rattle.laws_driver.proofs.told.law_of_told_steps.Goals as goal

pub returns-clause-takes : goal.returns-clause-takes
returns-clause-takes c = λ first queue s t r d told plays. takes_stays first s r d queue t told plays

pub returns-clause-publishes : goal.returns-clause-publishes
returns-clause-publishes c = λ first queue s t r d told plays. publish_stays first s r d queue t told plays

pub returns-clause-replies : goal.returns-clause-replies
returns-clause-replies c = λ first s t r d told plays. reply_stays first s r d t told plays

pub returns-clause-owed : goal.returns-clause-owed
returns-clause-owed c = λ first slot s t r d told plays. owed_stays first s r d slot t told plays

pub returns-clause-connects : goal.returns-clause-connects
returns-clause-connects c = λ first to s r d x to_fits told plays. connects_stays first s r d to x to_fits told plays

pub returns-clause-sends : goal.returns-clause-sends
returns-clause-sends c = λ first id bytes s r d x told plays. sends_stays first s r d id bytes x told plays
