use Rattle.vs_page.proofs.Messages.{ends_got_stay, ends_prefix, ends_put_stay, form_more, form_prefix}
use Rattle.vs_page.proofs.laws.laws_of_messages.Goals as goal

pub returns-clause-prefix : goal.returns-clause-prefix
returns-clause-prefix c = ends_prefix

pub returns-clause-put_stay : goal.returns-clause-put_stay
returns-clause-put_stay c = ends_put_stay

pub returns-clause-got_stay : goal.returns-clause-got_stay
returns-clause-got_stay c = ends_got_stay

pub returns-clause-more : goal.returns-clause-more
returns-clause-more c = form_more

pub returns-clause-form_stays : goal.returns-clause-form_stays
returns-clause-form_stays c = form_prefix
