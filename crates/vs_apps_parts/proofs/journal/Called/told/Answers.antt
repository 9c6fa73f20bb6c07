use Rattle.vs_apps_parts.proofs.journal.Called.told.Goals as goal

pub returns-in-Connect : goal.returns-in-Connect
returns-in-Connect c = λ script bytes app. rw c.in-Connect.is c.told_connect.ensures

pub returns-in-Accept : goal.returns-in-Accept
returns-in-Accept c = λ script bytes app. rw c.in-Accept.is c.told_accept.ensures

pub returns-in-Send : goal.returns-in-Send
returns-in-Send c = λ script bytes app. rw c.in-Send.is c.told_send.ensures

pub returns-in-Recv : goal.returns-in-Recv
returns-in-Recv c = λ script bytes app. rw c.in-Recv.is c.told_recv.ensures

pub returns-in-LookAt : goal.returns-in-LookAt
returns-in-LookAt c = λ script bytes app. rw c.in-LookAt.is c.told_look.ensures
