pub mod Apps
