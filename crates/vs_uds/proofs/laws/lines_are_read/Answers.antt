use Rattle.vs_uds.proofs.ConnectLines.{connect_answers-IsConnectLine, connect_step-IsConnectLine, same_port-connect}
use Rattle.vs_uds.proofs.OkLines.{ok_answers-IsOkLine, ok_step-IsOkLine, same_port-ok}
use Rattle.vs_uds.proofs.laws.lines_are_read.Goals as goal

pub returns-clause-connect : goal.returns-clause-connect
returns-clause-connect c = connect_answers-IsConnectLine

pub returns-clause-connect_alone : goal.returns-clause-connect_alone
returns-clause-connect_alone c line port short = (connect_step-IsConnectLine line short port).0

pub returns-clause-connect_port : goal.returns-clause-connect_port
returns-clause-connect_port c = same_port-connect

pub returns-clause-ok : goal.returns-clause-ok
returns-clause-ok c = ok_answers-IsOkLine

pub returns-clause-ok_alone : goal.returns-clause-ok_alone
returns-clause-ok_alone c line port short = (ok_step-IsOkLine line short port).0

pub returns-clause-ok_port : goal.returns-clause-ok_port
returns-clause-ok_port c = same_port-ok
