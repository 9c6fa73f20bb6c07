use Rattle.laws_history.proofs.BesidePairs.{sound_beside, within_got, within_put}
use Rattle.laws_history.proofs.beside.laws_of_credit_beside.Goals as goal

pub returns-clause-credit : goal.returns-clause-credit
returns-clause-credit c = λ side h p fair other plain. (within_put side h p fair other plain).0

pub returns-clause-forwarded : goal.returns-clause-forwarded
returns-clause-forwarded c = λ side h p fair other plain. (within_put side h p fair other plain).1

pub returns-clause-room : goal.returns-clause-room
returns-clause-room c = λ side h p fair other plain. (within_got side h p fair other plain).0

pub returns-clause-told : goal.returns-clause-told
returns-clause-told c = λ side h p fair other plain. (within_got side h p fair other plain).1

pub returns-clause-put : goal.returns-clause-put
returns-clause-put c = λ side h fair. (sound_beside side h fair).out.fits

pub returns-clause-got : goal.returns-clause-got
returns-clause-got c = λ side h fair. (sound_beside side h fair).back.fits
